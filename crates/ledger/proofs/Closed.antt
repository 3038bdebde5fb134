-- Closing a device: what its steps make of the room.
use Rattle.std.proofs.Common.{◌≡◌, ℕ, suc, ◌+◌, ◌<◌, ◌≤◌, Bool, true, false, cond, ◌&&◌, eqb, ltb, ◌⊎◌, List, length, sym, refl, ap, ◌∙◌, subst, inl, inr, ⊎_elim, arith}
use mathlib.Core.Path.{fun_ext}
use Rattle.std.proofs.lemmas.Bool.{eq-eqb, ne_eqb, lt-ltb, le-ltb, ltb-true, cases_eq, cases_lt, cond_both, and_parts}
use Rattle.ledger.specs.declared.Loan.TheVariants.{Home, Lent, Leaving}
use Rattle.ledger.specs.declared.Which.{Which}
use Rattle.ledger.specs.declared.Which.TheVariants.{Upper, Lower}
use Rattle.ledger.specs.declared.Use.{Use}
use Rattle.ledger.specs.declared.Use.TheVariants.{House, TableOf, Idle, PageOf}
use Rattle.ledger.specs.declared.Place.TheVariants.{Registers}
use Rattle.ledger.specs.declared.Device.TheVariants.{Shut, Closing}
use Rattle.ledger.specs.Room.{place_of, tag_of, device_of, top_of, low_of}
use Rattle.ledger.specs.View.{View, view_of, with_use, with_low, with_top, with_device}
use Rattle.ledger.specs.Uses.{is_with, is_lent, is_shut, loan_in, owner_is, leaving_from, home_from, map_loan, no_lower, no_lowers, no_table}
use Rattle.ledger.specs.Changes.{with_uses, closing_for, shut_device, without_lower, without_lowers}
use Rattle.ledger.specs.Consistent.{FrameOk, Coherent, Consistent}
use Rattle.ledger.proofs.Entries.{same_view}
use Rattle.ledger.proofs.Moves.{at1, at2, same1, same2, not_shut}
use Rattle.ledger.proofs.Laws.{within, low_within, changed}
use Rattle.ledger.proofs.Tags.{no_loan, tags_stay}
use Rattle.ledger.proofs.Coherence.{upper, closing_coherent, dropped_coherent, shut_coherent}
use Rattle.ledger.proofs.Operations.{Made}

not_lent : (d : ℕ) (u : Use) → is_lent d (loan_in (map_loan (leaving_from d) u)) ≡ false
not_lent d House = refl
not_lent d (TableOf e w) = refl
not_lent d Idle = refl
not_lent d (PageOf c v Home) = refl
not_lent d (PageOf c v (Lent m)) = cond_both (eqb d m.device) (Leaving m) (Lent m) (λ l. is_lent d l ≡ false) (λ _. refl) (λ q. q)
not_lent d (PageOf c v (Leaving m)) = refl

not_with : (d : ℕ) (u : Use) → is_with d (loan_in (map_loan (home_from d) u)) ≡ false
not_with d House = refl
not_with d (TableOf e w) = refl
not_with d Idle = refl
not_with d (PageOf c v Home) = refl
not_with d (PageOf c v (Lent m)) = cond_both (eqb d m.device) Home (Lent m) (λ l. is_with d l ≡ false) (λ _. refl) (λ q. q)
not_with d (PageOf c v (Leaving m)) = cond_both (eqb d m.device) Home (Leaving m) (λ l. is_with d l ≡ false) (λ _. refl) (λ q. q)

-- a device's tables are lent to nobody
abbrev Free : ℕ → View → Type 0
Free d s = (g : ℕ) → is_with d (loan_in (s.used g)) ≡ false

module _ (n : ℕ) (r m t : List ℕ) (c d : ℕ) (K : Consistent n m) (len : length t ≡ length m) (owner : owner_is c (device_of r d) ≡ true) (hidden : (a b : ℕ) → place_of r a b ≡ Registers d → ⊥) where
  pub closing_made : view_of n m ≡ with_uses (map_loan (leaving_from d)) (view_of n r) → view_of n t ≡ with_device d (Closing c) (view_of n m) → tag_of t ≡ tag_of m → Made n t (closing_for c d (view_of n r))
  closing_made e k i = (
    k ∙ ap (with_device d (Closing c)) e,
    changed n m t _ K len k (closing_coherent (view_of n m) K.coherent d c (ap (λ (s : View). owner_is c (s.device d)) e ∙ owner) (λ g. ap (λ (s : View). is_lent d (loan_in (s.used g))) e ∙ not_lent d ((view_of n r).used g))
        (λ a b h. hidden a b (ap (λ (s : View). s.place a b) (sym e) ∙ h))) (tags_stay (tag_of m) (tag_of t) (view_of n m) K.tags (view_of n m).used i (λ _. refl)),
  )

pub other_lower : (d i : ℕ) (u : Use) → (u ≡ TableOf d (Lower i) → ⊥) → u ≡ no_lower d i u
other_lower d i House h = refl
other_lower d i (TableOf e Upper) h = refl
other_lower d i (TableOf e (Lower j)) h = at2 (λ z. TableOf e (Lower j) ≡ z) e d j i Idle (TableOf e (Lower j)) (λ p q. absurd (h (cc))) (λ _. refl)
other_lower d i Idle h = refl
other_lower d i (PageOf c v l) h = refl

module _ (n : ℕ) (r : List ℕ) (d i : ℕ) (K : Consistent n r) where
  pub lower_frame : (g : ℕ) → (view_of n r).used g ≡ TableOf d (Lower i) → low_of r d i ≡ suc g
  lower_frame g e = subst (FrameOk (place_of r) (device_of r) (top_of r) (low_of r) g) e (K.coherent.frames g)

  pub lower_within : (t : ℕ) → low_of r d i ≡ suc t → t < n
  lower_within t e = within n r t (λ q. clash (sym q ∙ K.coherent.lows d i t e))
    where
      clash : Idle ≡ TableOf d (Lower i) → ⊥
      clash z = let y : ◌≡◌ {A = ℕ} 0 1 = cc in omega arith

  pub dropped_made : (m o : List ℕ) (t : ℕ) → low_of r d i ≡ suc t → Free d (view_of n r) → length o ≡ length r → view_of n m ≡ with_use t Idle (view_of n r) → view_of n o ≡ with_low d i 0 (view_of n m) → tag_of o ≡ tag_of r → Made n o (without_lower d i (view_of n r))
  dropped_made m o t noted free len k j h =
      let is = K.coherent.lows d i t noted in
      let both = j ∙ ap (with_low d i 0) k in (
        both ∙ ap (with_low d i 0) (same_view (with_use t Idle (view_of n r)) (with_uses (no_lower d i) (view_of n r)) (fun_ext (λ g. at1 (λ z. z ≡ no_lower d i ((view_of n r).used g)) g t Idle ((view_of n r).used g)
            (λ q. sym (ap (λ (f : ℕ). no_lower d i ((view_of n r).used f)) q ∙ ap (no_lower d i) is ∙ same2 d i Idle (TableOf d (Lower i)))) (λ ne. other_lower d i ((view_of n r).used g) (λ q. let h = lower_frame g q in ne (omega arith))))) refl refl refl refl),
        changed n r o _ K len both (dropped_coherent (view_of n r) K.coherent d i t noted free)
            (tags_stay (tag_of r) (tag_of o) (view_of n r) K.tags (λ g. cond (eqb g t) Idle ((view_of n r).used g)) h (no_loan (view_of n r) t Idle refl (ap loan_in is))),
      )

-- slots below k
abbrev pub no_below : ℕ → ℕ → Use → Use
no_below d k House = House
no_below d k (TableOf e Upper) = TableOf e Upper
no_below d k (TableOf e (Lower j)) = cond (eqb e d && ltb j k) Idle (TableOf e (Lower j))
no_below d k Idle = Idle
no_below d k (PageOf c v l) = PageOf c v l

abbrev pub lowers_below : ℕ → ℕ → View → View
lowers_below d k s = record { used = λ f. no_below d k (s.used f); place = s.place; device = s.device; top = s.top; low = λ e i. cond (eqb e d && ltb i k) 0 (s.low e i) }

pub below_zero : {A : Type 0} (e d j : ℕ) (x y : A) → y ≡ cond (eqb e d && ltb j 0) x y
below_zero e d j x y = cond_both (eqb e d && ltb j 0) x y (λ z. y ≡ z) (λ q. absurd (let l = ltb-true j 0 (and_parts (eqb e d) (ltb j 0) q).1 in omega arith)) (λ _. refl)

pub below_more : {A : Type 0} (e d j k : ℕ) (x y : A) → cond (eqb e d && eqb j k) x (cond (eqb e d && ltb j k) x y) ≡ cond (eqb e d && ltb j (k + 1)) x y
below_more e d j k x y = go (cases_eq e d) (cases_lt j k) (cases_eq j k)
  where
    go : (e ≡ d) ⊎ (e ≡ d → ⊥) → (j < k) ⊎ (k ≤ j) → (j ≡ k) ⊎ (j ≡ k → ⊥) → cond (eqb e d && eqb j k) x (cond (eqb e d && ltb j k) x y) ≡ cond (eqb e d && ltb j (k + 1)) x y
    go (inr p) q s = simp (ne_eqb e d p)
    go (inl p) (inl q) s = simp (eq-eqb e d p, lt-ltb j k q, lt-ltb j (k + 1) (omega arith), ne_eqb j k (λ z. omega arith))
    go (inl p) (inr q) (inl s) = simp (eq-eqb e d p, le-ltb j k q, lt-ltb j (k + 1) (omega arith), eq-eqb j k s)
    go (inl p) (inr q) (inr s) = simp (eq-eqb e d p, le-ltb j k q, le-ltb j (k + 1) (omega (arith, s)), ne_eqb j k s)

pub lowers_none : (d : ℕ) (s : View) → s ≡ lowers_below d 0 s
lowers_none d s = same_view s (lowers_below d 0 s) (fun_ext (λ g. go (s.used g))) refl refl refl (fun_ext (λ e. fun_ext (λ j. below_zero e d j 0 (s.low e j))))
  where
    go : (u : Use) → u ≡ no_below d 0 u
    go House = refl
    go (TableOf e Upper) = refl
    go (TableOf e (Lower j)) = below_zero e d j Idle (TableOf e (Lower j))
    go Idle = refl
    go (PageOf c v l) = refl

pub lowers_more : (d k : ℕ) (s t u : View) → t ≡ lowers_below d k s → u ≡ without_lower d k t → u ≡ lowers_below d (k + 1) s
lowers_more d k s t u e j =
    j ∙ ap (without_lower d k) e ∙
    same_view (without_lower d k (lowers_below d k s)) (lowers_below d (k + 1) s) (fun_ext (λ g. go (s.used g))) refl refl refl (fun_ext (λ a. fun_ext (λ b. below_more a d b k 0 (s.low a b))))
  where
    go : (u : Use) → no_lower d k (no_below d k u) ≡ no_below d (k + 1) u
    go House = refl
    go (TableOf a Upper) = refl
    go (TableOf a (Lower b)) = cond_both (eqb a d && ltb b k) Idle (TableOf a (Lower b)) (λ z. no_lower d k z ≡ cond (eqb a d && eqb b k) Idle z) (λ _. sym (same_both (eqb a d && eqb b k))) (λ _. refl) ∙ below_more a d b k Idle (TableOf a (Lower b))
      where
        same_both : (t : Bool) → cond t Idle Idle ≡ Idle
        same_both true = refl
        same_both false = refl
    go Idle = refl
    go (PageOf c v l) = refl

-- what is lent to nobody stays so
pub lowers_free : (d k : ℕ) (s t : View) → t ≡ lowers_below d k s → Free d s → Free d t
lowers_free d k s t e free g = ap (λ (x : View). is_with d (loan_in (x.used g))) e ∙ go (s.used g) ∙ free g
  where
    go : (u : Use) → is_with d (loan_in (no_below d k u)) ≡ is_with d (loan_in u)
    go House = refl
    go (TableOf a Upper) = refl
    go (TableOf a (Lower b)) = cond_both (eqb a d && ltb b k) Idle (TableOf a (Lower b)) (λ z. is_with d (loan_in z) ≡ false) (λ _. refl) (λ _. refl)
    go Idle = refl
    go (PageOf c v l) = refl

-- all 512 slots
pub lowers_all : (n : ℕ) (r : List ℕ) (d : ℕ) → Consistent n r → lowers_below d 512 (view_of n r) ≡ without_lowers d (view_of n r)
lowers_all n r d K =
    same_view (lowers_below d 512 (view_of n r)) (without_lowers d (view_of n r)) (fun_ext (λ g. go g ((view_of n r).used g) refl)) refl refl refl
    (fun_ext (λ a. fun_ext (λ b. full a b 0 (low_of r a b) (λ ne. ⊎_elim (λ z. z) (λ z. absurd (let w = low_within r a b z in omega (arith, w.1, ne))) (cases_eq (low_of r a b) 0)))))
  where
    full : {A : Type 0} (a b : ℕ) (x y : A) → (512 ≤ b → y ≡ x) → cond (eqb a d && ltb b 512) x y ≡ cond (eqb a d) x y
    full a b x y h = ⊎_elim (λ l. rw (lt-ltb b 512 l) (and_true (eqb a d))) (λ l. rw (le-ltb b 512 l, h l) (same_both (eqb a d && false) (eqb a d))) (cases_lt b 512)
      where
        and_true : (t : Bool) → cond (t && true) x y ≡ cond t x y
        and_true true = refl
        and_true false = refl

        same_both : (s t : Bool) → cond s x x ≡ cond t x x
        same_both true true = refl
        same_both true false = refl
        same_both false true = refl
        same_both false false = refl

    go : (g : ℕ) (u : Use) → (view_of n r).used g ≡ u → no_below d 512 u ≡ no_lowers d u
    go g House e = refl
    go g (TableOf a Upper) e = refl
    go g (TableOf a (Lower b)) e =
        full a b Idle (TableOf a (Lower b)) (λ l. absurd (let k = lower_frame n r a b K g e in let w = low_within r a b (λ z. omega arith) in omega (arith, w.1)))
    go g Idle e = refl
    go g (PageOf c v l) e = refl

-- the upper table goes last
module _ (n : ℕ) (r t : List ℕ) (d : ℕ) (K : Consistent n r) where
  top_is : is_shut (device_of r d) ≡ false → (view_of n r).used (top_of r d) ≡ TableOf d Upper
  top_is live = upper (view_of n r) K.coherent d live

  pub top_within : is_shut (device_of r d) ≡ false → top_of r d < n
  top_within live = within n r (top_of r d) (λ q. clash (sym q ∙ top_is live))
    where
      clash : Idle ≡ TableOf d Upper → ⊥
      clash z = let y : ◌≡◌ {A = ℕ} 0 1 = cc in omega arith

  pub shut_made : (m o : List ℕ) (f : ℕ) → f ≡ top_of r d → length t ≡ length r → is_shut (device_of r d) ≡ false → ((i : ℕ) → low_of r d i ≡ 0) → Free d (view_of n r) → ((a b : ℕ) → place_of r a b ≡ Registers d → ⊥) →
      view_of n m ≡ with_use f Idle (view_of n r) → view_of n o ≡ with_top d 0 (view_of n m) → view_of n t ≡ with_device d Shut (view_of n o) → tag_of t ≡ tag_of r → Made n t (with_device d Shut (with_top d 0 (with_use (top_of r d) Idle (view_of n r))))
  shut_made m o f is len live none free hidden e k j h =
      let q = j ∙ ap (with_device d Shut) (k ∙ ap (with_top d 0) (e ∙ ap (λ (g : ℕ). with_use g Idle (view_of n r)) is)) in (
        q,
        changed n r t _ K len q (shut_coherent (view_of n r) K.coherent d live none free hidden)
            (tags_stay (tag_of r) (tag_of t) (view_of n r) K.tags (λ g. cond (eqb g (top_of r d)) Idle ((view_of n r).used g)) h (no_loan (view_of n r) (top_of r d) Idle refl (ap loan_in (top_is live)))),
      )

-- the tables of d are idle, and it is shut
abbrev without_tables : ℕ → View → View
without_tables d s =
    record { used = λ f. no_table d (s.used f); place = s.place; device = λ e. cond (eqb e d) Shut (s.device e); top = λ e. cond (eqb e d) 0 (s.top e); low = λ e i. cond (eqb e d) 0 (s.low e i) }

tables_gone : (s : View) → Coherent s → (d : ℕ) → is_shut (s.device d) ≡ false → with_device d Shut (with_top d 0 (with_use (s.top d) Idle (without_lowers d s))) ≡ without_tables d s
tables_gone s K d live = same_view (with_device d Shut (with_top d 0 (with_use (s.top d) Idle (without_lowers d s)))) (without_tables d s) (fun_ext here) refl refl refl refl
  where
    turned : (e : ℕ) (w : Which) → cond (eqb e d) Idle (TableOf e w) ≡ cond (eqb d e) Idle (TableOf e w)
    turned e w = ⊎_elim (λ q. rw (eq-eqb e d q, eq-eqb d e (sym q))) (λ ne. rw (ne_eqb e d ne, ne_eqb d e (λ q. ne (sym q)))) (cases_eq e d)

    kept : (g : ℕ) (u : Use) → (g ≡ s.top d → ⊥) → FrameOk s.place s.device s.top s.low g u → no_lowers d u ≡ no_table d u
    kept g House ne h = refl
    kept g (TableOf e Upper) ne h = at1 (λ z. TableOf e Upper ≡ z) d e Idle (TableOf e Upper) (λ q. absurd (ne (sym h.0 ∙ ap s.top (sym q)))) (λ _. refl)
    kept g (TableOf e (Lower j)) ne h = turned e (Lower j)
    kept g Idle ne h = refl
    kept g (PageOf c v l) ne h = refl

    here : (g : ℕ) → cond (eqb g (s.top d)) Idle (no_lowers d (s.used g)) ≡ no_table d (s.used g)
    here g =
        at1 (λ z. z ≡ no_table d (s.used g)) g (s.top d) Idle (no_lowers d (s.used g))
        (λ q. sym (ap (λ (f : ℕ). no_table d (s.used f)) q ∙ ap (no_table d) (upper s K d live) ∙ same1 d Idle (TableOf d Upper))) (λ ne. kept g (s.used g) ne (K.frames g))

-- first all loans come home, then the lower tables go, then the upper one
module _ (n : ℕ) (r m : List ℕ) (c d : ℕ) (owner : owner_is c (device_of r d) ≡ true) (hidden : (a b : ℕ) → place_of r a b ≡ Registers d → ⊥) (home : view_of n m ≡ with_uses (map_loan (home_from d)) (view_of n r)) where
  pub home_free : Free d (view_of n m)
  home_free g = ap (λ (s : View). is_with d (loan_in (s.used g))) home ∙ not_with d ((view_of n r).used g)

  home_live : is_shut (device_of m d) ≡ false
  home_live = not_shut c (device_of m d) (ap (λ (s : View). owner_is c (s.device d)) home ∙ owner)

  module _ (o : List ℕ) (bare : view_of n o ≡ without_lowers d (view_of n m)) where
    pub bare_live : is_shut (device_of o d) ≡ false
    bare_live = ap (λ (s : View). is_shut (s.device d)) bare ∙ home_live

    pub bare_free : Free d (view_of n o)
    bare_free g = ap (λ (s : View). is_with d (loan_in (s.used g))) bare ∙ go ((view_of n m).used g) ∙ home_free g
      where
        go : (u : Use) → is_with d (loan_in (no_lowers d u)) ≡ is_with d (loan_in u)
        go House = refl
        go (TableOf a Upper) = refl
        go (TableOf a (Lower b)) = cond_both (eqb a d) Idle (TableOf a (Lower b)) (λ z. is_with d (loan_in z) ≡ false) (λ _. refl) (λ _. refl)
        go Idle = refl
        go (PageOf c v l) = refl

    pub bare_lows : (i : ℕ) → low_of o d i ≡ 0
    bare_lows i = ap (λ (s : View). s.low d i) bare ∙ same1 d 0 (low_of m d i)

    pub bare_hidden : (a b : ℕ) → place_of o a b ≡ Registers d → ⊥
    bare_hidden a b h = hidden a b (ap (λ (s : View). s.place a b) (sym home) ∙ ap (λ (s : View). s.place a b) (sym bare) ∙ h)

    pub shut_view : Consistent n m → (t : List ℕ) → view_of n t ≡ with_device d Shut (with_top d 0 (with_use (top_of o d) Idle (view_of n o))) → view_of n t ≡ shut_device d (view_of n r)
    shut_view K t e =
        e ∙ ap (λ (s : View). with_device d Shut (with_top d 0 (with_use (s.top d) Idle s))) bare ∙ tables_gone (view_of n m) K.coherent d home_live ∙ ap (without_tables d) home
