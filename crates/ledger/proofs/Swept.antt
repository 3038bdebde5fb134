-- Sweeps of loans: place by place, and that the places of one program are all that there are to look at.
use Rattle.std.proofs.Common.{◌≡◌, ℕ, ◌+◌, ◌<◌, ◌≤◌, Bool, true, false, cond, ◌&&◌, eqb, ltb, ◌⊎◌, List, sym, refl, ap, ◌∙◌, subst, inl, inr, ⊎_elim, arith}
use mathlib.Core.Path.{fun_ext}
use Rattle.std.proofs.lemmas.Bool.{eqb-true, eq-eqb, ne_eqb, lt-ltb, le-ltb, ltb-true, cases_eq, cases_lt, cases_Bool, cond_both, and_parts, and_from, false≢true}
use Rattle.ledger.specs.declared.Loan.{Loan}
use Rattle.ledger.specs.declared.Loan.TheVariants.{Home, Lent, Leaving}
use Rattle.ledger.specs.declared.Use.{Use}
use Rattle.ledger.specs.declared.Use.TheVariants.{House, TableOf, Idle, PageOf}
use Rattle.ledger.specs.declared.Place.TheVariants.{Nothing, Page}
use Rattle.ledger.specs.declared.Device.{Device}
use Rattle.ledger.specs.Words.{LoanFits, UseFits}
use Rattle.ledger.specs.Room.{use_of, place_of, device_of, low_of}
use Rattle.ledger.specs.View.{View, view_of}
use Rattle.ledger.specs.Uses.{is_page, is_at, is_with, loan_in, owner_is, swept_loan, map_loan, on_page}
use Rattle.ledger.specs.Changes.{with_loan, with_uses}
use Rattle.ledger.specs.Consistent.{LoanOk, Consistent}
use Rattle.ledger.proofs.Entries.{same_view}
use Rattle.ledger.proofs.Moves.{at1, same2, is_page_of}
use Rattle.ledger.proofs.Laws.{used_at, place_within, page_shown, page_loan, page_at, use_fits}
use Rattle.ledger.proofs.Coherence.{one_owner}

-- the loans of the pages of c at places below k are changed
abbrev pub below : ℕ → ℕ → (Loan → Loan) → Use → Use
below c k φ House = House
below c k φ (TableOf d w) = TableOf d w
below c k φ Idle = Idle
below c k φ (PageOf a b l) = cond (eqb a c && ltb b k) (PageOf a b (φ l)) (PageOf a b l)

-- what a sweep leaves of a loan
pub swept_fits : (h : Bool) (d : ℕ) (l : Loan) → LoanFits l → LoanFits (swept_loan h d l)
swept_fits true d Home f = f
swept_fits true d (Lent m) f = cond_both (eqb d m.device) Home (Lent m) LoanFits (λ _. tt) (λ _. f)
swept_fits true d (Leaving m) f = cond_both (eqb d m.device) Home (Leaving m) LoanFits (λ _. tt) (λ _. f)
swept_fits false d Home f = f
swept_fits false d (Lent m) f = cond_both (eqb d m.device) (Leaving m) (Lent m) LoanFits (λ _. f) (λ _. f)
swept_fits false d (Leaving m) f = f

pub swept_ok : (dev : ℕ → Device) (low : ℕ → ℕ → ℕ) (c : ℕ) (h : Bool) (d : ℕ) (l : Loan) → LoanOk dev low c l → LoanOk dev low c (swept_loan h d l)
swept_ok dev low c true d Home k = k
swept_ok dev low c true d (Lent m) k = cond_both (eqb d m.device) Home (Lent m) (LoanOk dev low c) (λ _. tt) (λ _. k)
swept_ok dev low c true d (Leaving m) k = cond_both (eqb d m.device) Home (Leaving m) (LoanOk dev low c) (λ _. tt) (λ _. k)
swept_ok dev low c false d Home k = k
swept_ok dev low c false d (Lent m) k =
    cond_both (eqb d m.device) (Leaving m) (Lent m) (LoanOk dev low c) (λ _. (ap (owner_is c) k.0 ∙ eq-eqb c c refl, k.1, k.2)) (λ _. k)
swept_ok dev low c false d (Leaving m) k = k

pub swept_at : (h : Bool) (d : ℕ) (l : Loan) (e p : ℕ) → is_at e p (swept_loan h d l) ≡ true → is_at e p l ≡ true
swept_at true d Home e p k = k
swept_at true d (Lent m) e p k = cond_both (eqb d m.device) Home (Lent m) (λ z. is_at e p z ≡ true → is_at e p (Lent m) ≡ true) (λ _ k. absurd (false≢true k)) (λ _ k. k) k
swept_at true d (Leaving m) e p k = cond_both (eqb d m.device) Home (Leaving m) (λ z. is_at e p z ≡ true → is_at e p (Leaving m) ≡ true) (λ _ k. absurd (false≢true k)) (λ _ k. k) k
swept_at false d Home e p k = k
swept_at false d (Lent m) e p k = cond_both (eqb d m.device) (Leaving m) (Lent m) (λ z. is_at e p z ≡ true → is_at e p (Lent m) ≡ true) (λ _ k. k) (λ _ k. k) k
swept_at false d (Leaving m) e p k = k

-- what is not with d stays
pub swept_other : (h : Bool) (d : ℕ) (l : Loan) → is_with d l ≡ false → l ≡ swept_loan h d l
swept_other true d Home e = refl
swept_other true d (Lent m) e = rw e
swept_other true d (Leaving m) e = rw e
swept_other false d Home e = refl
swept_other false d (Lent m) e = rw e
swept_other false d (Leaving m) e = refl

-- what is with d is of the program that has d
pub with_owner : (dev : ℕ → Device) (low : ℕ → ℕ → ℕ) (c d : ℕ) (l : Loan) → LoanOk dev low c l → is_with d l ≡ true → owner_is c (dev d) ≡ true
with_owner dev low c d Home k e = absurd (false≢true e)
with_owner dev low c d (Lent m) k e = rw (eqb-true d m.device e) (ap (owner_is c) k.0 ∙ eq-eqb c c refl)
with_owner dev low c d (Leaving m) k e = rw (eqb-true d m.device e) k.0

on_other : (c v : ℕ) (φ : Loan → Loan) (u : Use) → (is_page c v u ≡ true → ⊥) → u ≡ on_page c v φ u
on_other c v φ House h = refl
on_other c v φ (TableOf d w) h = refl
on_other c v φ Idle h = refl
on_other c v φ (PageOf a b l) h = cond_both (eqb a c && eqb b v) (PageOf a b (φ l)) (PageOf a b l) (λ z. PageOf a b l ≡ z) (λ e. absurd (h e)) (λ _. refl)

module _ (n : ℕ) (r : List ℕ) (K : Consistent n r) (c v : ℕ) (φ : Loan → Loan) where
  not_there : (g : ℕ) → (place_of r c v ≡ Page g → ⊥) → is_page c v ((view_of n r).used g) ≡ true → ⊥
  not_there g h p = let u = is_page_of c v ((view_of n r).used g) p in h (page_shown (view_of n r) K.coherent c v g u.0 u.1)

  -- a place that shows no page
  pub place_skipped : ((g : ℕ) → place_of r c v ≡ Page g → ⊥) → view_of n r ≡ with_uses (on_page c v φ) (view_of n r)
  place_skipped h = same_view (view_of n r) (with_uses (on_page c v φ) (view_of n r)) (fun_ext (λ g. on_other c v φ ((view_of n r).used g) (not_there g (h g)))) refl refl refl refl

  pub place_swept : (f : ℕ) (l : Loan) → place_of r c v ≡ Page f → use_of r f ≡ PageOf c v l → with_loan c v f (φ l) (view_of n r) ≡ with_uses (on_page c v φ) (view_of n r)
  place_swept f l e k = same_view (with_loan c v f (φ l) (view_of n r)) (with_uses (on_page c v φ) (view_of n r)) (fun_ext here) refl refl refl refl
    where
      is : (view_of n r).used f ≡ PageOf c v l
      is = used_at n r f (page_at n r K c v f e).0 ∙ k

      here : (g : ℕ) → cond (eqb g f) (PageOf c v (φ l)) ((view_of n r).used g) ≡ on_page c v φ ((view_of n r).used g)
      here g =
          at1 (λ z. z ≡ on_page c v φ ((view_of n r).used g)) g f (PageOf c v (φ l)) ((view_of n r).used g)
          (λ q. sym (ap (λ (j : ℕ). on_page c v φ ((view_of n r).used j)) q ∙ ap (on_page c v φ) is ∙ same2 c v (PageOf c v (φ l)) (PageOf c v l)))
          (λ ne. on_other c v φ ((view_of n r).used g) (not_there g (λ q. let z : Page g ≡ Page f = sym q ∙ e in ne (cc))))

-- the next place
one_more : (c k : ℕ) (φ : Loan → Loan) (u : Use) → on_page c k φ (below c k φ u) ≡ below c (k + 1) φ u
one_more c k φ House = refl
one_more c k φ (TableOf d w) = refl
one_more c k φ Idle = refl
one_more c k φ (PageOf a b l) = go (cases_eq a c) (cases_lt b k) (cases_eq b k)
  where
    go : (a ≡ c) ⊎ (a ≡ c → ⊥) → (b < k) ⊎ (k ≤ b) → (b ≡ k) ⊎ (b ≡ k → ⊥) → on_page c k φ (cond (eqb a c && ltb b k) (PageOf a b (φ l)) (PageOf a b l)) ≡ cond (eqb a c && ltb b (k + 1)) (PageOf a b (φ l)) (PageOf a b l)
    go (inr p) q s = simp (ne_eqb a c p)
    go (inl p) (inl q) s = simp (eq-eqb a c p, lt-ltb b k q, lt-ltb b (k + 1) (omega arith), ne_eqb b k (λ e. omega arith))
    go (inl p) (inr q) (inl s) = simp (eq-eqb a c p, le-ltb b k q, lt-ltb b (k + 1) (omega arith), eq-eqb b k s)
    go (inl p) (inr q) (inr s) = simp (eq-eqb a c p, le-ltb b k q, le-ltb b (k + 1) (omega (arith, s)), ne_eqb b k s)

none_yet : (c : ℕ) (φ : Loan → Loan) (u : Use) → u ≡ below c 0 φ u
none_yet c φ House = refl
none_yet c φ (TableOf d w) = refl
none_yet c φ Idle = refl
none_yet c φ (PageOf a b l) = cond_both (eqb a c && ltb b 0) (PageOf a b (φ l)) (PageOf a b l) (λ z. PageOf a b l ≡ z) (λ e. absurd (let q = ltb-true b 0 (and_parts (eqb a c) (ltb b 0) e).1 in omega arith)) (λ _. refl)

pub swept_none : (c : ℕ) (φ : Loan → Loan) (s : View) → s ≡ with_uses (below c 0 φ) s
swept_none c φ s = same_view s (with_uses (below c 0 φ) s) (fun_ext (λ g. none_yet c φ (s.used g))) refl refl refl refl

pub swept_more : (c k : ℕ) (φ : Loan → Loan) (s t u : View) → t ≡ with_uses (below c k φ) s → u ≡ with_uses (on_page c k φ) t → u ≡ with_uses (below c (k + 1) φ) s
swept_more c k φ s t u e j =
    j ∙ ap (with_uses (on_page c k φ)) e ∙ same_view (with_uses (on_page c k φ) (with_uses (below c k φ) s)) (with_uses (below c (k + 1) φ) s) (fun_ext (λ g. one_more c k φ (s.used g))) refl refl refl refl

nothing_page : {g : ℕ} → Nothing ≡ Page g → ⊥
nothing_page z = let y : ◌≡◌ {A = ℕ} 0 1 = cc in omega arith

-- what a loan that is swept asks of the room
module _ (n : ℕ) (r : List ℕ) (K : Consistent n r) (c v f a b : ℕ) (l : Loan) (h : Bool) (d : ℕ) (shown : place_of r c v ≡ Page f) (is : use_of r f ≡ PageOf a b l) where
  pub same_page : use_of r f ≡ PageOf c v l
  same_page = let u = (page_at n r K c v f shown).1 in let e : PageOf c v u.0 ≡ PageOf a b l = sym u.1 ∙ is in u.1 ∙ ap (PageOf c v) (cc)

  module _ (x : Loan) (ax : x ≡ swept_loan h d l) where
    pub swept_may : LoanFits x × LoanOk (device_of r) (low_of r) c x
    swept_may =
        rw ax (
          swept_fits h d l (subst UseFits same_page (use_fits r f)).2,
          swept_ok (device_of r) (low_of r) c h d l (page_loan (view_of n r) K.coherent c v f l (used_at n r f (page_at n r K c v f shown).0 ∙ same_page)),
        )

    pub swept_alone : (g e p : ℕ) → g < n → is_at e p x ≡ true → is_at e p (loan_in (use_of r g)) ≡ true → g ≡ f
    swept_alone g e p i s t =
        K.coherent.once g f e p (ap (λ u. is_at e p (loan_in u)) (used_at n r g i) ∙ t)
        (ap (λ u. is_at e p (loan_in u)) (used_at n r f (page_at n r K c v f shown).0 ∙ same_page) ∙ swept_at h d l e p (ap (is_at e p) (sym ax) ∙ s))

-- after the 1,024 places of the program that has d
pub swept_all : (n : ℕ) (r : List ℕ) → Consistent n r → (c d : ℕ) (h : Bool) → owner_is c (device_of r d) ≡ true → with_uses (below c 1024 (swept_loan h d)) (view_of n r) ≡ with_uses (map_loan (swept_loan h d)) (view_of n r)
swept_all n r K c d h owner =
    same_view (with_uses (below c 1024 (swept_loan h d)) (view_of n r)) (with_uses (map_loan (swept_loan h d)) (view_of n r)) (fun_ext (λ g. every g ((view_of n r).used g) refl)) refl refl refl refl
  where
    every : (g : ℕ) (u : Use) → (view_of n r).used g ≡ u → below c 1024 (swept_loan h d) u ≡ map_loan (swept_loan h d) u
    every g House e = refl
    every g (TableOf b w) e = refl
    every g Idle e = refl
    every g (PageOf a b l) e =
        cond_both (eqb a c && ltb b 1024) (PageOf a b (swept_loan h d l)) (PageOf a b l) (λ z. z ≡ PageOf a b (swept_loan h d l)) (λ _. refl)
        (λ q. ap (PageOf a b) (swept_other h d l (⊎_elim (λ w. absurd (false≢true (sym q ∙ mine w))) (λ w. w) (cases_Bool (is_with d l)))))
      where
        mine : is_with d l ≡ true → (eqb a c && ltb b 1024) ≡ true
        mine w =
            let o = with_owner (device_of r) (low_of r) a d l (page_loan (view_of n r) K.coherent a b g l e) w in
            let p = place_within r a b (λ z. nothing_page (sym z ∙ page_shown (view_of n r) K.coherent a b g l e)) in
            and_from (eqb a c) (ltb b 1024) (eq-eqb a c (one_owner a c (device_of r d) o owner)) (lt-ltb b 1024 p.1)
