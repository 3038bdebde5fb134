-- What holds of one entry still holds when the tables change, if what it refers to stays.
use Rattle.std.proofs.Common.{◌≡◌, ℕ, suc, ◌/◌, true, false, cond, ◌&&◌, eqb, ◌⊎◌, sym, refl, ap, ◌∙◌, inl, inr}
use Rattle.std.proofs.lemmas.Bool.{eqb-true, eqb-false, eq-eqb, ne_eqb, cond_both, and_parts, false≢true}
use Rattle.ledger.specs.declared.Loan.{Loan}
use Rattle.ledger.specs.declared.Loan.TheVariants.{Home, Lent, Leaving}
use Rattle.ledger.specs.declared.mapping.Mapping.{Mapping}
use Rattle.ledger.specs.declared.Which.TheVariants.{Upper, Lower}
use Rattle.ledger.specs.declared.Use.{Use}
use Rattle.ledger.specs.declared.Use.TheVariants.{House, TableOf, Idle, PageOf}
use Rattle.ledger.specs.declared.Place.{Place}
use Rattle.ledger.specs.declared.Place.TheVariants.{Nothing, Page, Registers}
use Rattle.ledger.specs.declared.Device.{Device}
use Rattle.ledger.specs.declared.Device.TheVariants.{Shut, Opened, Closing}
use Rattle.ledger.specs.Uses.{is_page, loan_in, is_at, is_shut, owner_is}
use Rattle.ledger.specs.Consistent.{LoanOk, FrameOk, PlaceOk, DeviceOk}

-- an entry of a table after a write at one number, or at two
pub at1 : {A : Type 0} (P : A → Type 0) (g f : ℕ) (x y : A) → (g ≡ f → P x) → ((g ≡ f → ⊥) → P y) → P (cond (eqb g f) x y)
at1 P g f x y a b = cond_both (eqb g f) x y P (λ e. a (eqb-true g f e)) (λ e. b (eqb-false g f e))

pub at2 : {A : Type 0} (P : A → Type 0) (a c b v : ℕ) (x y : A) → (a ≡ c → b ≡ v → P x) → (((a ≡ c) × (b ≡ v) → ⊥) → P y) → P (cond (eqb a c && eqb b v) x y)
at2 P a c b v x y t f =
    cond_both (eqb a c && eqb b v) x y P (λ e. let h = and_parts (eqb a c) (eqb b v) e in t (eqb-true a c h.0) (eqb-true b v h.1))
    (λ e. f (λ q. false≢true (sym e ∙ rw (eq-eqb a c q.0, eq-eqb b v q.1))))

pub same1 : {A : Type 0} (f : ℕ) (x y : A) → cond (eqb f f) x y ≡ x
same1 f x y = rw (eq-eqb f f refl)

pub other1 : {A : Type 0} (g f : ℕ) (x y : A) → (g ≡ f → ⊥) → cond (eqb g f) x y ≡ y
other1 g f x y ne = rw (ne_eqb g f ne)

pub same2 : {A : Type 0} (c v : ℕ) (x y : A) → cond (eqb c c && eqb v v) x y ≡ x
same2 c v x y = rw (eq-eqb c c refl, eq-eqb v v refl)

pub other2 : {A : Type 0} (a c b v : ℕ) (x y : A) → ((a ≡ c) × (b ≡ v) → ⊥) → cond (eqb a c && eqb b v) x y ≡ y
other2 a c b v x y ne = at2 (λ z. z ≡ y) a c b v x y (λ p q. absurd (ne (p, q))) (λ _. refl)

pub is_page_of : (c v : ℕ) (u : Use) → is_page c v u ≡ true → (l : Loan) × (u ≡ PageOf c v l)
is_page_of c v House e = absurd (false≢true e)
is_page_of c v (TableOf d w) e = absurd (false≢true e)
is_page_of c v Idle e = absurd (false≢true e)
is_page_of c v (PageOf a b l) e =
    let h = and_parts (eqb a c) (eqb b v) e in let p = eqb-true a c h.0 in let q = eqb-true b v h.1 in (l, cc)

pub page_is : (c v : ℕ) (l : Loan) → is_page c v (PageOf c v l) ≡ true
page_is c v l = rw (eq-eqb c c refl, eq-eqb v v refl)

pub owner_as : (c : ℕ) (x : Device) → owner_is c x ≡ true → (x ≡ Opened c) ⊎ (x ≡ Closing c)
owner_as c Shut e = absurd (false≢true e)
owner_as c (Opened w) e = inl (ap Opened (sym (eqb-true c w e)))
owner_as c (Closing w) e = inr (ap Closing (sym (eqb-true c w e)))

pub not_shut : (c : ℕ) (x : Device) → owner_is c x ≡ true → is_shut x ≡ false
not_shut c Shut e = absurd (false≢true e)
not_shut c (Opened w) e = refl
not_shut c (Closing w) e = refl

module _ (dev dev' : ℕ → Device) (low low' : ℕ → ℕ → ℕ) where
  -- the loan of a page, whose device and slot stay
  pub loan_moves : (c : ℕ) (l : Loan) → ((m : Mapping) → l ≡ Lent m → dev m.device ≡ Opened c → dev' m.device ≡ Opened c) → ((m : Mapping) → l ≡ Leaving m → owner_is c (dev m.device) ≡ true → owner_is c (dev' m.device) ≡ true) →
      ((d p : ℕ) → is_at d p l ≡ true → (low d (p / 512) ≡ 0 → ⊥) → low' d (p / 512) ≡ 0 → ⊥) → LoanOk dev low c l → LoanOk dev' low' c l
  loan_moves c Home a b k h = tt
  loan_moves c (Lent m) a b k h = (a m refl h.0, h.1, k m.device m.page (rw (eq-eqb m.device m.device refl, eq-eqb m.page m.page refl)) h.2)
  loan_moves c (Leaving m) a b k h = (b m refl h.0, h.1, k m.device m.page (rw (eq-eqb m.device m.device refl, eq-eqb m.page m.page refl)) h.2)

  module _ (place place' : ℕ → ℕ → Place) (top top' : ℕ → ℕ) where
    pub frame_moves : (f : ℕ) (u : Use) → ((c v : ℕ) → place c v ≡ Page f → place' c v ≡ Page f) → ((d : ℕ) → u ≡ TableOf d Upper → top d ≡ f → is_shut (dev d) ≡ false → (top' d ≡ f) × (is_shut (dev' d) ≡ false)) →
        ((d i : ℕ) → u ≡ TableOf d (Lower i) → low d i ≡ suc f → low' d i ≡ suc f) → ((c v : ℕ) (l : Loan) → u ≡ PageOf c v l → LoanOk dev low c l → LoanOk dev' low' c l) → FrameOk place dev top low f u →
        FrameOk place' dev' top' low' f u
    frame_moves f House p t w l h = h
    frame_moves f (TableOf d Upper) p t w l h = t d refl h.0 h.1
    frame_moves f (TableOf d (Lower i)) p t w l h = w d i refl h
    frame_moves f Idle p t w l h = tt
    frame_moves f (PageOf c v k) p t w l h = (p c v h.0, l c v k refl h.1)

module _ (used used' : ℕ → Use) where
  pub place_moves : (dev dev' : ℕ → Device) (c v : ℕ) (x : Place) → ((f : ℕ) → x ≡ Page f → is_page c v (used f) ≡ true → is_page c v (used' f) ≡ true) → ((d : ℕ) → x ≡ Registers d → dev d ≡ Opened c → dev' d ≡ Opened c) →
      PlaceOk used dev c v x → PlaceOk used' dev' c v x
  place_moves dev dev' c v Nothing p r h = tt
  place_moves dev dev' c v (Page f) p r h = p f refl h
  place_moves dev dev' c v (Registers d) p r h = r d refl h

  pub device_moves : (top top' : ℕ → ℕ) (low low' : ℕ → ℕ → ℕ) (d : ℕ) (x : Device) → (is_shut x ≡ false → used (top d) ≡ TableOf d Upper → used' (top' d) ≡ TableOf d Upper) →
      (x ≡ Shut → ((i : ℕ) → low d i ≡ 0) → (i : ℕ) → low' d i ≡ 0) → DeviceOk used top low d x → DeviceOk used' top' low' d x
  device_moves top top' low low' d Shut t l h = l refl h
  device_moves top top' low low' d (Opened c) t l h = t refl h
  device_moves top top' low low' d (Closing c) t l h = t refl h

  pub once_moves : ((f d p : ℕ) → is_at d p (loan_in (used' f)) ≡ true → is_at d p (loan_in (used f)) ≡ true) → ((f g d p : ℕ) → is_at d p (loan_in (used f)) ≡ true → is_at d p (loan_in (used g)) ≡ true → f ≡ g) →
      (f g d p : ℕ) → is_at d p (loan_in (used' f)) ≡ true → is_at d p (loan_in (used' g)) ≡ true → f ≡ g
  once_moves back once f g d p a b = once f g d p (back f d p a) (back g d p b)
