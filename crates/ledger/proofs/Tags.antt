-- What the operations leave of the places' tags.
use Rattle.std.proofs.Common.{◌≡◌, ℕ, Bool, true, false, cond, ◌&&◌, eqb, sym, refl, ap, ◌∙◌}
use Rattle.std.proofs.lemmas.Bool.{eqb-true, eq-eqb, and_parts, false≢true}
use Rattle.ledger.specs.declared.Loan.{Loan}
use Rattle.ledger.specs.declared.Loan.TheVariants.{Home}
use Rattle.ledger.specs.declared.Use.{Use}
use Rattle.ledger.specs.declared.Use.TheVariants.{PageOf}
use Rattle.ledger.specs.declared.Place.{Place}
use Rattle.ledger.specs.declared.Place.TheVariants.{Nothing, Page, Registers}
use Rattle.ledger.specs.Words.{tag_for}
use Rattle.ledger.specs.View.{View, with_tag}
use Rattle.ledger.specs.Uses.{loan_in, loan_shown}
use Rattle.ledger.specs.Changes.{with_loan}
use Rattle.ledger.specs.Consistent.{Coherent, Tagged}
use Rattle.ledger.proofs.Moves.{at1, same1}
use Rattle.ledger.proofs.Laws.{shown_page}

-- a frame's use is changed, and neither was a loan
pub no_loan : (s : View) (f : ℕ) (x : Use) → loan_in x ≡ Home → loan_in (s.used f) ≡ Home → (g : ℕ) → loan_in (cond (eqb g f) x (s.used g)) ≡ loan_in (s.used g)
no_loan s f x a b g = at1 (λ u. loan_in u ≡ loan_in (s.used g)) g f x (s.used g) (λ e. a ∙ sym b ∙ ap (λ (k : ℕ). loan_in (s.used k)) (sym e)) (λ _. refl)

-- a page stands at one place
pub one_place : (s : View) → Coherent s → (a b c v f : ℕ) → s.place a b ≡ Page f → s.place c v ≡ Page f → (a ≡ c) × (b ≡ v)
one_place s K a b c v f p q =
    let x = shown_page s K a b f p in let y = shown_page s K c v f q in let e : PageOf a b x.0 ≡ PageOf c v y.0 = sym x.1 ∙ y.1 in (cc, cc)

module _ (t t' : ℕ → ℕ → ℕ) (s : View) (tagged : Tagged t s) where
  -- no tag and no loan is changed
  pub tags_stay : (used : ℕ → Use) → t' ≡ t → ((g : ℕ) → loan_in (used g) ≡ loan_in (s.used g)) → (c v : ℕ) → t' c v ≡ tag_for (loan_shown used (s.place c v))
  tags_stay used e h c v = ap (λ (x : ℕ → ℕ → ℕ). x c v) e ∙ tagged c v ∙ sym (ap tag_for (go (s.place c v)))
    where
      go : (x : Place) → loan_shown used x ≡ loan_shown s.used x
      go Nothing = refl
      go (Page g) = h g
      go (Registers d) = refl

  -- place v of c shows x, with the tag of what that is lent at; pages at other places are lent as before
  pub tags_at : (used : ℕ → Use) (c v y : ℕ) (x : Place) → t' ≡ with_tag c v y t → y ≡ tag_for (loan_shown used x) → ((a b g : ℕ) → ((a ≡ c) × (b ≡ v) → ⊥) → s.place a b ≡ Page g → loan_in (used g) ≡ loan_in (s.used g)) →
      (a b : ℕ) → t' a b ≡ tag_for (loan_shown used (cond (eqb a c && eqb b v) x (s.place a b)))
  tags_at used c v y x e is others a b =
      ap (λ (z : ℕ → ℕ → ℕ). z a b) e ∙ both (eqb a c && eqb b v) refl
    where
      elsewhere : ((a ≡ c) × (b ≡ v) → ⊥) → (p : Place) → s.place a b ≡ p → loan_shown s.used p ≡ loan_shown used p
      elsewhere ne Nothing q = refl
      elsewhere ne (Page g) q = sym (others a b g ne q)
      elsewhere ne (Registers d) q = refl

      both : (z : Bool) → (eqb a c && eqb b v) ≡ z → cond z y (t a b) ≡ tag_for (loan_shown used (cond z x (s.place a b)))
      both true q = is
      both false q = tagged a b ∙ ap tag_for (elsewhere (λ w. false≢true (sym q ∙ rw (eq-eqb a c w.0, eq-eqb b v w.1))) (s.place a b) refl)

  -- the page of c at v has another loan, and its place the tag of that
  pub tags_loan : Coherent s → (c v f : ℕ) (l : Loan) → s.place c v ≡ Page f → t' ≡ with_tag c v (tag_for l) t → Tagged t' (with_loan c v f l s)
  tags_loan K c v f l shown e a b = tags_at used c v (tag_for l) (Page f) e (sym (ap (λ (u : Use). tag_for (loan_in u)) (same1 f (PageOf c v l) (s.used f)))) others a b ∙ ap (λ (p : Place). tag_for (loan_shown used p)) (here (eqb a c && eqb b v) refl)
    where
      used : ℕ → Use
      used g = cond (eqb g f) (PageOf c v l) (s.used g)

      others : (a b g : ℕ) → ((a ≡ c) × (b ≡ v) → ⊥) → s.place a b ≡ Page g → loan_in (used g) ≡ loan_in (s.used g)
      others a b g ne q = at1 (λ u. loan_in u ≡ loan_in (s.used g)) g f (PageOf c v l) (s.used g) (λ z. absurd (ne (one_place s K a b c v f (q ∙ ap Page z) shown))) (λ _. refl)

      here : (z : Bool) → (eqb a c && eqb b v) ≡ z → cond z (Page f) (s.place a b) ≡ s.place a b
      here true q =
          let h = and_parts (eqb a c) (eqb b v) q in
          sym shown ∙ ap (λ (x : ℕ). s.place x v) (sym (eqb-true a c h.0)) ∙ ap (s.place a) (sym (eqb-true b v h.1))
      here false q = refl
