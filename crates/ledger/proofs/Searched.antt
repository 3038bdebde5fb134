-- A page of a device is taken by a page that a place of the program that has the device shows.
use Rattle.std.proofs.Common.{◌+◌, ◌-◌, ◌*◌, ◌/◌, ◌≤◌, slice_index, eqb, subst, ⊎_elim, ◌≡◌, ℕ, ◌<◌, Bool, true, List, Decides, sym, refl, ap, ◌∙◌, arith}
use Rattle.std.proofs.lemmas.Bool.{and_parts, eqb-true, cases_lt, false≢true}
use Rattle.ledger.specs.declared.Loan.{Loan}
use Rattle.ledger.specs.declared.Loan.TheVariants.{Home, Lent, Leaving}
use Rattle.ledger.specs.Words.{tag_at, tag_for}
use Rattle.ledger.specs.declared.Use.{Use}
use Rattle.ledger.specs.declared.Use.TheVariants.{House, TableOf, Idle, PageOf}
use Rattle.ledger.specs.declared.Place.{Place}
use Rattle.ledger.specs.declared.Place.TheVariants.{Nothing, Page, Registers}
use Rattle.ledger.specs.Room.{use_of, place_of, tag_of, device_of, low_of}
use Rattle.ledger.specs.View.{view_of}
use Rattle.ledger.specs.Uses.{is_at, loan_in, loan_shown, owner_is}
use Rattle.ledger.specs.Consistent.{Consistent}
use Rattle.ledger.proofs.Laws.{used_at, place_within, page_shown, page_loan, page_at}
use Rattle.ledger.proofs.Coherence.{at_with, one_owner}
use Rattle.ledger.proofs.Swept.{with_owner}
use Rattle.ledger.proofs.PassedLoans.{tag_there}

at_page : (d p : ℕ) (u : Use) → is_at d p (loan_in u) ≡ true → (a : ℕ) × (b : ℕ) × (l : Loan) × (u ≡ PageOf a b l)
at_page d p House e = absurd (false≢true e)
at_page d p (TableOf b w) e = absurd (false≢true e)
at_page d p Idle e = absurd (false≢true e)
at_page d p (PageOf a b l) e = (a, b, l, refl)

nothing_page : {f : ℕ} → Nothing ≡ Page f → ⊥
nothing_page e = let z : ◌≡◌ {A = ℕ} 0 1 = cc in omega arith

module _ (n : ℕ) (r : List ℕ) (K : Consistent n r) (c d p : ℕ) (owner : owner_is c (device_of r d) ≡ true) where
  abbrev Shows : Type 0
  Shows = (v : ℕ) × (v < 1024) × (is_at d p (loan_shown (use_of r) (place_of r c v)) ≡ true)

  shows_taken : Shows → (f : ℕ) × (f < n) × (is_at d p (loan_in (use_of r f)) ≡ true)
  shows_taken s = go (place_of r c s.0) refl s.2
    where
      go : (x : Place) → place_of r c s.0 ≡ x → is_at d p (loan_shown (use_of r) x) ≡ true → (f : ℕ) × (f < n) × (is_at d p (loan_in (use_of r f)) ≡ true)
      go Nothing e h = absurd (false≢true h)
      go (Page f) e h = (f, (page_at n r K c s.0 f e).0, h)
      go (Registers b) e h = absurd (false≢true h)

  taken_shows : (f : ℕ) → f < n → is_at d p (loan_in (use_of r f)) ≡ true → (v : ℕ) × (v < 1024) × (is_at d p (loan_shown (use_of r) (place_of r c v)) ≡ true)
  taken_shows f i h =
      let u = at_page d p (use_of r f) h in
      let is = used_at n r f i ∙ u.3 in
      let there = page_shown (view_of n r) K.coherent u.0 u.1 f u.2 is in
      let at : is_at d p u.2 ≡ true = ap (λ (x : Use). is_at d p (loan_in x)) (sym u.3) ∙ h in
      let mine = one_owner u.0 c (device_of r d) (with_owner (device_of r) (low_of r) u.0 d u.2 (page_loan (view_of n r) K.coherent u.0 u.1 f u.2 is) (at_with d d p u.2 refl at)) owner in
      (u.1, (place_within r u.0 u.1 (λ z. nothing_page (sym z ∙ there))).1, ap (λ (x : Place). is_at d p (loan_shown (use_of r) x)) (ap (λ (a : ℕ). place_of r a u.1) (sym mine) ∙ there) ∙ h)

  pub taken_decides : (b : Bool) → Decides b ((v : ℕ) × (v < 1024) × (is_at d p (loan_shown (use_of r) (place_of r c v)) ≡ true)) → Decides b ((f : ℕ) × (f < n) × (is_at d p (loan_in (use_of r f)) ≡ true))
  taken_decides b h = (λ e. shows_taken (h.0 e), λ t. h.1 (taken_shows t.0 t.1 t.2))

-- what is at page p of d has its tag
at_tag : (d p : ℕ) (l : Loan) → is_at d p l ≡ true → tag_for l ≡ tag_at d p
at_tag d p Home e = absurd (false≢true e)
at_tag d p (Lent m) e = let h = and_parts (eqb d m.device) (eqb p m.page) e in let a = eqb-true d m.device h.0 in let b = eqb-true p m.page h.1 in omega (arith, a, b)
at_tag d p (Leaving m) e = let h = and_parts (eqb d m.device) (eqb p m.page) e in let a = eqb-true d m.device h.0 in let b = eqb-true p m.page h.1 in omega (arith, a, b)

module _ (n : ℕ) (r : List ℕ) (K : Consistent n r) (c d p : ℕ) (program : c < 32) where
  taken_tag : (u : ℕ) → is_at d p (loan_shown (use_of r) (place_of r c u)) ≡ true → tag_of r c u ≡ tag_at d p
  taken_tag u e = K.tags c u ∙ go (place_of r c u) refl e
    where
      go : (x : Place) → place_of r c u ≡ x → is_at d p (loan_shown (use_of r) x) ≡ true → tag_for (loan_shown (view_of n r).used x) ≡ tag_at d p
      go Nothing q h = absurd (false≢true h)
      go (Page f) q h = ap (λ (x : Use). tag_for (loan_in x)) (used_at n r f (page_at n r K c u f q).0) ∙ at_tag d p (loan_in (use_of r f)) h
      go (Registers b) q h = absurd (false≢true h)

  -- 64 places whose words, one over the other, are too small for the tag of page p of d
  pub none_among : (first at seen : ℕ) → at ≡ c * 1024 + first → first + 64 ≤ 1024 → ((k : ℕ) → k < 64 → slice_index r (at + k) ≤ seen) → seen / 131072 < tag_at d p → (u : ℕ) → first ≤ u → u < first + 64 → is_at d p (loan_shown (use_of r) (place_of r c u)) ≡ true → ⊥
  none_among first at seen e within most few u l m h =
      let there : at + (u - first) ≡ c * 1024 + u = omega (arith, e) in
      let word : slice_index r (c * 1024 + u) ≤ seen = subst (λ (i : ℕ). slice_index r i ≤ seen) there (most (u - first) (omega arith)) in
      let tag = sym (tag_there r c u program (omega arith)) ∙ taken_tag u h in
      omega (arith, word, tag, few)

-- what was decided of the numbers below n is decided of those below m, if it is true of none from n on
pub decided_on : (b : Bool) (Q : ℕ → Type 0) (n m : ℕ) → n ≤ m → Decides b ((u : ℕ) × (u < n) × Q u) → ((u : ℕ) → n ≤ u → u < m → Q u → ⊥) → Decides b ((u : ℕ) × (u < m) × Q u)
decided_on b Q n m l h none = (
  λ e. let w = h.0 e in (w.0, omega (arith, w.1), w.2),
  λ w. ⊎_elim (λ (lt : w.0 < n). h.1 (w.0, lt, w.2)) (λ (ge : n ≤ w.0). absurd (none w.0 ge w.1 w.2)) (cases_lt w.0 n),
)
