-- A loop over the 1,024 places of a program that hides a device's registers, or vacates them: its start, its step and its end.
use Rattle.std.proofs.Common.{◌≡◌, ℕ, ◌+◌, ◌≤◌, Bool, true, false, cond, ◌&&◌, eqb, ltb, List, sym, refl, ap, ◌∙◌, subst, ⊎_elim, arith}
use mathlib.Core.Path.{fun_ext}
use Rattle.std.proofs.lemmas.Bool.{eq-eqb, ne_eqb, eqb-true, lt-ltb, le-ltb, cases_eq, cases_lt, cond_both, and_from, false≢true}
use Rattle.ledger.specs.declared.Loan.{Loan}
use Rattle.ledger.specs.declared.Use.{Use}
use Rattle.ledger.specs.declared.Use.TheVariants.{House, TableOf, Idle, PageOf}
use Rattle.ledger.specs.declared.Place.{Place}
use Rattle.ledger.specs.declared.Place.TheVariants.{Nothing, Page, Registers}
use Rattle.ledger.specs.Room.{place_of, device_of}
use Rattle.ledger.specs.View.{View, view_of}
use Rattle.ledger.specs.Uses.{owner_is, no_page, not_of, not_below, no_registers}
use Rattle.ledger.specs.Changes.{unregistered, without_registers, hidden_below, vacated, ended, ended_below}
use Rattle.ledger.specs.Consistent.{PlaceOk, Consistent}
use Rattle.ledger.proofs.Entries.{same_view}
use Rattle.ledger.proofs.Moves.{at2}
use Rattle.ledger.proofs.Laws.{place_within, page_shown}
use Rattle.ledger.proofs.Coherence.{one_owner}
use Rattle.ledger.proofs.Closed.{below_zero, below_more}

-- twice is once
no_registers_twice : (d : ℕ) (x : Place) → no_registers d (no_registers d x) ≡ no_registers d x
no_registers_twice d Nothing = refl
no_registers_twice d (Page f) = refl
no_registers_twice d (Registers e) = cond_both (eqb e d) Nothing (Registers e) (λ z. no_registers d z ≡ z) (λ _. refl) (λ q. rw q)

pub hidden_none : (c d : ℕ) (s : View) → s ≡ hidden_below c d 0 s
hidden_none c d s = same_view s (hidden_below c d 0 s) refl (fun_ext (λ a. fun_ext (λ b. below_zero a c b (no_registers d (s.place a b)) (s.place a b)))) refl refl refl

pub hidden_more : (c d k : ℕ) (s t u : View) → t ≡ hidden_below c d k s → u ≡ unregistered c k d t → u ≡ hidden_below c d (k + 1) s
hidden_more c d k s t u e j =
    j ∙ ap (unregistered c k d) e ∙ same_view (unregistered c k d (hidden_below c d k s)) (hidden_below c d (k + 1) s) refl (fun_ext (λ a. fun_ext (λ b. go a b))) refl refl refl
  where
    at : ℕ → ℕ → Place
    at a b = cond (eqb a c && ltb b k) (no_registers d (s.place a b)) (s.place a b)

    twice : (a b : ℕ) → no_registers d (at a b) ≡ no_registers d (s.place a b)
    twice a b = cond_both (eqb a c && ltb b k) (no_registers d (s.place a b)) (s.place a b) (λ z. no_registers d z ≡ no_registers d (s.place a b)) (λ _. no_registers_twice d (s.place a b)) (λ _. refl)

    go : (a b : ℕ) → cond (eqb a c && eqb b k) (no_registers d (at c k)) (at a b) ≡ cond (eqb a c && ltb b (k + 1)) (no_registers d (s.place a b)) (s.place a b)
    go a b =
        at2 (λ z. z ≡ cond (eqb a c && eqb b k) (no_registers d (s.place a b)) (at a b)) a c b k (no_registers d (at c k)) (at a b)
        (λ p q. ap (no_registers d) (ap (λ (x : ℕ). at x k) (sym p) ∙ ap (λ (x : ℕ). at a x) (sym q)) ∙ twice a b ∙ sym (rw (eq-eqb a c p, eq-eqb b k q)))
        (λ ne. at2 (λ z. at a b ≡ z) a c b k (no_registers d (s.place a b)) (at a b) (λ p q. absurd (ne (p, q))) (λ _. refl)) ∙ below_more a c b k (no_registers d (s.place a b)) (s.place a b)

-- registers of d are shown to the program that has it, and to no other
pub hidden_all : (n : ℕ) (r : List ℕ) → Consistent n r → (c d : ℕ) → owner_is c (device_of r d) ≡ true → hidden_below c d 1024 (view_of n r) ≡ without_registers d (view_of n r)
hidden_all n r K c d owner = same_view (hidden_below c d 1024 (view_of n r)) (without_registers d (view_of n r)) refl (fun_ext (λ a. fun_ext (λ b. go a b (place_of r a b) refl))) refl refl refl
  where
    go : (a b : ℕ) (x : Place) → place_of r a b ≡ x → cond (eqb a c && ltb b 1024) (no_registers d x) x ≡ no_registers d x
    go a b x e = cond_both (eqb a c && ltb b 1024) (no_registers d x) x (λ z. z ≡ no_registers d x) (λ _. refl) (λ q. other x e q)
      where
        other : (y : Place) → place_of r a b ≡ y → (eqb a c && ltb b 1024) ≡ false → y ≡ no_registers d y
        other Nothing h q = refl
        other (Page f) h q = refl
        other (Registers g) h q =
            cond_both (eqb g d) Nothing (Registers g) (λ z. Registers g ≡ z)
            (λ is. absurd (false≢true (sym q ∙ and_from (eqb a c) (ltb b 1024) (eq-eqb a c (one_owner a c (device_of r d) (mine g h (eqb-true g d is)) owner)) (lt-ltb b 1024 (place_within r a b (λ z. nothing (sym z ∙ h))).1)))) (λ _. refl)
          where
            mine : (g : ℕ) → place_of r a b ≡ Registers g → g ≡ d → owner_is a (device_of r d) ≡ true
            mine g h i = ap (λ (x : ℕ). owner_is a (device_of r x)) (sym i) ∙ ap (owner_is a) (subst (PlaceOk (view_of n r).used (device_of r) a b) h (K.coherent.places a b)) ∙ eq-eqb a a refl

            nothing : {g : ℕ} → Nothing ≡ Registers g → ⊥
            nothing z = let y : ◌≡◌ {A = ℕ} 0 1 = cc in omega arith

pub hidden_nowhere : (d : ℕ) (s t : View) → t ≡ without_registers d s → (a b : ℕ) → t.place a b ≡ Registers d → ⊥
hidden_nowhere d s t e a b h = go (s.place a b) (ap (λ (v : View). v.place a b) (sym e) ∙ h)
  where
    nothing : {g : ℕ} → Nothing ≡ Registers g → ⊥
    nothing z = let y : ◌≡◌ {A = ℕ} 0 1 = cc in omega arith

    page : {f g : ℕ} → Page f ≡ Registers g → ⊥
    page z = let y : ◌≡◌ {A = ℕ} 0 1 = cc in omega arith

    go : (x : Place) → no_registers d x ≡ Registers d → ⊥
    go Nothing q = nothing q
    go (Page f) q = page q
    go (Registers g) q = cond_both (eqb g d) Nothing (Registers g) (λ z. z ≡ Registers d → ⊥) (λ _ k. nothing k) (λ i k. false≢true (sym i ∙ eq-eqb g d (cc))) q

pub ended_none : (c : ℕ) (s : View) → s ≡ ended_below c 0 s
ended_none c s = same_view s (ended_below c 0 s) (fun_ext (λ g. go (s.used g))) (fun_ext (λ a. fun_ext (λ b. below_zero a c b Nothing (s.place a b)))) refl refl refl
  where
    go : (u : Use) → u ≡ not_below c 0 u
    go House = refl
    go (TableOf d w) = refl
    go Idle = refl
    go (PageOf a b l) = below_zero a c b Idle (PageOf a b l)

pub ended_more : (c k : ℕ) (s t u : View) → t ≡ ended_below c k s → u ≡ vacated c k t → u ≡ ended_below c (k + 1) s
ended_more c k s t u e j =
    j ∙ ap (vacated c k) e ∙
    same_view (vacated c k (ended_below c k s)) (ended_below c (k + 1) s) (fun_ext (λ g. go (s.used g))) (fun_ext (λ a. fun_ext (λ b. below_more a c b k Nothing (s.place a b)))) refl refl refl
  where
    same_both : (x : Bool) → cond x Idle Idle ≡ Idle
    same_both true = refl
    same_both false = refl

    go : (u : Use) → no_page c k (not_below c k u) ≡ not_below c (k + 1) u
    go House = refl
    go (TableOf d w) = refl
    go Idle = refl
    go (PageOf a b l) =
        cond_both (eqb a c && ltb b k) Idle (PageOf a b l) (λ z. no_page c k z ≡ cond (eqb a c && eqb b k) Idle z) (λ _. sym (same_both (eqb a c && eqb b k))) (λ _. refl) ∙ below_more a c b k Idle (PageOf a b l)

pub ended_all : (n : ℕ) (r : List ℕ) → Consistent n r → (c : ℕ) → ended_below c 1024 (view_of n r) ≡ ended c (view_of n r)
ended_all n r K c =
    same_view (ended_below c 1024 (view_of n r)) (ended c (view_of n r)) (fun_ext (λ g. used g ((view_of n r).used g) refl)) (fun_ext (λ a. fun_ext (λ b. full a b Nothing (place_of r a b) (λ l. none a b l)))) refl refl refl
  where
    full : {A : Type 0} (a b : ℕ) (x y : A) → (1024 ≤ b → y ≡ x) → cond (eqb a c && ltb b 1024) x y ≡ cond (eqb a c) x y
    full a b x y h = ⊎_elim (λ l. rw (lt-ltb b 1024 l) (and_true (eqb a c))) (λ l. rw (le-ltb b 1024 l, h l) (same_both (eqb a c && false) (eqb a c))) (cases_lt b 1024)
      where
        and_true : (t : Bool) → cond (t && true) x y ≡ cond t x y
        and_true true = refl
        and_true false = refl

        same_both : (s t : Bool) → cond s x x ≡ cond t x x
        same_both true true = refl
        same_both true false = refl
        same_both false true = refl
        same_both false false = refl

    none : (a b : ℕ) → 1024 ≤ b → place_of r a b ≡ Nothing
    none a b l = go (place_of r a b) refl
      where
        go : (x : Place) → place_of r a b ≡ x → place_of r a b ≡ Nothing
        go Nothing e = e
        go (Page f) e = absurd (let w = place_within r a b (λ z. let q : Nothing ≡ Page f = sym z ∙ e in let y : ◌≡◌ {A = ℕ} 0 1 = cc in omega arith) in omega (arith, w.1))
        go (Registers f) e = absurd (let w = place_within r a b (λ z. let q : Nothing ≡ Registers f = sym z ∙ e in let y : ◌≡◌ {A = ℕ} 0 1 = cc in omega arith) in omega (arith, w.1))

    turned : (a b : ℕ) (l : Loan) → cond (eqb a c) Idle (PageOf a b l) ≡ cond (eqb c a) Idle (PageOf a b l)
    turned a b l = ⊎_elim (λ q. rw (eq-eqb a c q, eq-eqb c a (sym q))) (λ ne. rw (ne_eqb a c ne, ne_eqb c a (λ q. ne (sym q)))) (cases_eq a c)

    used : (g : ℕ) (u : Use) → (view_of n r).used g ≡ u → not_below c 1024 u ≡ not_of c u
    used g House e = refl
    used g (TableOf d w) e = refl
    used g Idle e = refl
    used g (PageOf a b l) e =
        full a b Idle (PageOf a b l) (λ i. absurd (let q : Nothing ≡ Page g = sym (none a b i) ∙ page_shown (view_of n r) K.coherent a b g l e in let y : ◌≡◌ {A = ℕ} 0 1 = cc in omega arith)) ∙ turned a b l
