-- What lending a page and taking it back ask of the room.
use Rattle.std.proofs.Common.{◌≡◌, ℕ, ◌<◌, Bool, true, false, eqb, List, sym, refl, ap, ◌∙◌, subst, arith}
use Rattle.std.proofs.lemmas.Bool.{eq-eqb, eqb-true, and_parts, false≢true}
use Rattle.ledger.specs.declared.Loan.{Loan}
use Rattle.ledger.specs.declared.Loan.TheVariants.{Home, Lent, Leaving}
use Rattle.ledger.specs.declared.mapping.Mapping.{Mapping}
use Rattle.ledger.specs.declared.Use.{Use}
use Rattle.ledger.specs.declared.Use.TheVariants.{PageOf}
use Rattle.ledger.specs.declared.Place.TheVariants.{Page}
use Rattle.ledger.specs.declared.Device.{Device}
use Rattle.ledger.specs.declared.Device.TheVariants.{Shut, Opened}
use Rattle.ledger.specs.Words.{LoanFits, UseFits}
use Rattle.ledger.specs.Room.{use_of, place_of, device_of, low_of}
use Rattle.ledger.specs.View.{view_of}
use Rattle.ledger.specs.Uses.{is_at, loan_in, owner_is, recalled_loan}
use Rattle.ledger.specs.Consistent.{LoanOk, Consistent}
use Rattle.ledger.proofs.Laws.{used_at, page_at, page_loan, use_fits, device_within}

pub opened_within : (r : List ℕ) (c d : ℕ) → device_of r d ≡ Opened c → d < 32
opened_within r c d e = device_within r d (λ z. let q : Shut ≡ Opened c = sym z ∙ e in let y : ◌≡◌ {A = ℕ} 0 1 = cc in omega arith)

-- where no frame is, none is another
pub lent_alone : (n : ℕ) (r : List ℕ) (f : ℕ) (m : Mapping) → ((g : ℕ) → g < n → is_at m.device m.page (loan_in (use_of r g)) ≡ true → ⊥) →
    (g e q : ℕ) → g < n → is_at e q (Lent m) ≡ true → is_at e q (loan_in (use_of r g)) ≡ true → g ≡ f
lent_alone n r f m free g e q l a b =
    let h = and_parts (eqb e m.device) (eqb q m.page) a in
    let is = eqb-true e m.device h.0 in
    let at = eqb-true q m.page h.1 in absurd (free g l (ap (λ (x : ℕ). is_at x m.page (loan_in (use_of r g))) (sym is) ∙ ap (λ (x : ℕ). is_at e x (loan_in (use_of r g))) (sym at) ∙ b))

recalled_fits : (h : Bool) (l : Loan) → LoanFits l → LoanFits (recalled_loan h l)
recalled_fits true l k = tt
recalled_fits false Home k = tt
recalled_fits false (Lent m) k = k
recalled_fits false (Leaving m) k = k

recalled_ok : (dev : ℕ → Device) (low : ℕ → ℕ → ℕ) (c : ℕ) (h : Bool) (l : Loan) → LoanOk dev low c l → LoanOk dev low c (recalled_loan h l)
recalled_ok dev low c true l k = tt
recalled_ok dev low c false Home k = tt
recalled_ok dev low c false (Lent m) k = (ap (owner_is c) k.0 ∙ eq-eqb c c refl, k.1, k.2)
recalled_ok dev low c false (Leaving m) k = k

recalled_at : (h : Bool) (l : Loan) (d p : ℕ) → is_at d p (recalled_loan h l) ≡ true → is_at d p l ≡ true
recalled_at true l d p e = absurd (false≢true e)
recalled_at false Home d p e = e
recalled_at false (Lent m) d p e = e
recalled_at false (Leaving m) d p e = e

module _ (n : ℕ) (r : List ℕ) (K : Consistent n r) (c v f : ℕ) (h : Bool) (shown : place_of r c v ≡ Page f) (x : Loan) (ax : x ≡ recalled_loan h (loan_in (use_of r f))) where
  is : use_of r f ≡ PageOf c v (loan_in (use_of r f))
  is = let u = (page_at n r K c v f shown).1 in u.1 ∙ ap (PageOf c v) (sym (ap loan_in u.1))

  pub recalled_may : LoanFits x × LoanOk (device_of r) (low_of r) c x
  recalled_may = (
    subst LoanFits (sym ax) (recalled_fits h (loan_in (use_of r f)) (subst UseFits is (use_fits r f)).2),
    subst (LoanOk (device_of r) (low_of r) c) (sym ax)
        (recalled_ok (device_of r) (low_of r) c h (loan_in (use_of r f)) (page_loan (view_of n r) K.coherent c v f (loan_in (use_of r f)) (used_at n r f (page_at n r K c v f shown).0 ∙ is))),
  )

  pub recalled_alone : (g d p : ℕ) → g < n → is_at d p x ≡ true → is_at d p (loan_in (use_of r g)) ≡ true → g ≡ f
  recalled_alone g d p l a b =
      K.coherent.once g f d p (ap (λ (u : Use). is_at d p (loan_in u)) (used_at n r g l) ∙ b)
      (ap (λ (u : Use). is_at d p (loan_in u)) (used_at n r f (page_at n r K c v f shown).0) ∙ recalled_at h (loan_in (use_of r f)) d p (ap (is_at d p) (sym ax) ∙ a))
