-- What the operations of several writes make of a consistent room: its view, and that it is consistent.
use Rattle.std.proofs.Common.{◌≡◌, ℕ, suc, ◌+◌, ◌<◌, true, false, cond, ◌&&◌, eqb, List, length, sym, refl, ap, ◌∙◌, subst, inl, inr, add-one, arith}
use mathlib.Core.Path.{fun_ext}
use Rattle.std.proofs.lemmas.Bool.{false≢true, cond_both}
use Rattle.ledger.specs.declared.Loan.{Loan}
use Rattle.ledger.specs.declared.Loan.TheVariants.{Home}
use Rattle.ledger.specs.declared.Which.TheVariants.{Upper, Lower}
use Rattle.ledger.specs.declared.Use.{Use}
use Rattle.ledger.specs.declared.Use.TheVariants.{House, TableOf, Idle, PageOf}
use Rattle.ledger.specs.declared.Place.{Place}
use Rattle.ledger.specs.declared.Place.TheVariants.{Nothing, Page, Registers}
use Rattle.ledger.specs.declared.Device.TheVariants.{Shut, Opened}
use Rattle.ledger.specs.Room.{use_of, place_of, tag_of, device_of, low_of}
use Rattle.ledger.specs.View.{View, view_of, with_use, with_place, with_tag, with_device, with_top, with_low}
use Rattle.ledger.specs.Uses.{is_page, is_at, is_shut, loan_in, loan_shown, no_page, no_registers, shows_registers}
use Rattle.ledger.specs.Changes.{Settles, new_page, freed_page, given_page, with_loan, opened_by, lower_at, with_uses, vacated, unregistered}
use Rattle.ledger.specs.Words.{UseFits, PlaceFits, tag_for}
use Rattle.ledger.specs.Consistent.{Coherent, Tagged, LoanOk, Consistent}
use Rattle.ledger.proofs.Entries.{same_view, same_place}
use Rattle.ledger.proofs.Moves.{at1, same1, is_page_of}
use Rattle.ledger.proofs.Laws.{used_at, within, changed, shown_page, page_shown, page_at}
use Rattle.ledger.proofs.Tags.{no_loan, one_place, tags_stay, tags_at, tags_loan}
use Rattle.ledger.proofs.Coherence.{new_page_coherent, freed_page_coherent, loan_coherent, opened_coherent, lower_coherent, registers_coherent, hidden_coherent}

-- room t says s, and is consistent
abbrev pub Made : ℕ → List ℕ → View → Type 0
Made n t s = (view_of n t ≡ s) × Consistent n t

module _ (n : ℕ) (r m t : List ℕ) (K : Consistent n r) (len : length t ≡ length r) (c v f : ℕ) where
  pub settle_fits : c < 32 → v < 1024 → (u : Use) (x : Place) → f < 65536 → Settles r c v f u x → UseFits u × PlaceFits x
  settle_fits hc hv u x hf (inl h) = (subst UseFits (sym h.0) (hc, hv, tt), subst PlaceFits (sym h.1) hf)
  settle_fits hc hv u x hf (inr h) = (subst UseFits (sym h.0) tt, subst PlaceFits (sym h.1) tt)

  pub settle_made : (u : Use) (x : Place) → f < n → Settles r c v f u x → view_of n m ≡ with_use f u (view_of n r) → view_of n t ≡ with_place c v x (view_of n m) → tag_of m ≡ tag_of r → tag_of t ≡ with_tag c v 0 (tag_of m) → Made n t (with_place c v x (with_use f u (view_of n r)))
  settle_made u x l h e k i j =
      let q = k ∙ ap (with_place c v x) e in (q, changed n r t _ K len q (go h) (tagged h))
    where
      tags : tag_of t ≡ with_tag c v 0 (tag_of r)
      tags = j ∙ ap (with_tag c v 0) i

      tagged : Settles r c v f u x → Tagged (tag_of t) (with_place c v x (with_use f u (view_of n r)))
      tagged (inl s) =
          tags_at (tag_of r) (tag_of t) (view_of n r) K.tags (λ g. cond (eqb g f) u ((view_of n r).used g)) c v 0 x tags
          (sym (ap (λ (p : Place). tag_for (loan_shown (λ g. cond (eqb g f) u ((view_of n r).used g)) p)) s.1 ∙ ap (λ (z : Use). tag_for (loan_in z)) (same1 f u ((view_of n r).used f) ∙ s.0)))
          (λ a b g _ _. no_loan (view_of n r) f u (ap loan_in s.0) (ap loan_in (used_at n r f l ∙ s.2)) g)
      tagged (inr s) =
          tags_at (tag_of r) (tag_of t) (view_of n r) K.tags (λ g. cond (eqb g f) u ((view_of n r).used g)) c v 0 x tags (ap (λ (p : Place). tag_for (loan_shown (λ g. cond (eqb g f) u ((view_of n r).used g)) p)) (sym s.1))
          (λ a b g ne q. at1 (λ z. loan_in z ≡ loan_in ((view_of n r).used g)) g f u ((view_of n r).used g) (λ z. absurd (ne (one_place (view_of n r) K.coherent a b c v f (q ∙ ap Page z) s.2))) (λ _. refl))

      go : Settles r c v f u x → Coherent (with_place c v x (with_use f u (view_of n r)))
      go (inl s) = rw (s.0, s.1) (new_page_coherent (view_of n r) K.coherent c v f (used_at n r f l ∙ s.2) s.3)
      go (inr s) = rw (s.0, s.1) (let u = shown_page (view_of n r) K.coherent c v f s.2 in freed_page_coherent (view_of n r) K.coherent c v f u.0 u.1)

  pub loan_made : (l : Loan) → place_of r c v ≡ Page f → LoanOk (device_of r) (low_of r) c l → ((g d p : ℕ) → g < n → is_at d p l ≡ true → is_at d p (loan_in (use_of r g)) ≡ true → g ≡ f) → view_of n m ≡ with_use f (PageOf c v l) (view_of n r) → view_of n t ≡ view_of n m →
      tag_of m ≡ tag_of r → tag_of t ≡ with_tag c v (tag_for l) (tag_of m) → Made n t (with_loan c v f l (view_of n r))
  loan_made l shown ok alone k j i h =
      let e = j ∙ k in
      let u = shown_page (view_of n r) K.coherent c v f shown in (
        e,
        changed n r t _ K len e (loan_coherent (view_of n r) K.coherent c v f u.0 l u.1 ok (λ g d p a b. let i : g < n = within n r g (λ z. nobody d p g z b) in alone g d p i a (ap (λ x. is_at d p (loan_in x)) (sym (used_at n r g i)) ∙ b)))
            (tags_loan (tag_of r) (tag_of t) (view_of n r) K.tags K.coherent c v f l shown (h ∙ ap (with_tag c v (tag_for l)) i)),
      )
    where
      nobody : (d p g : ℕ) → (view_of n r).used g ≡ Idle → is_at d p (loan_in ((view_of n r).used g)) ≡ true → ⊥
      nobody d p g z b = false≢true (ap (λ x. is_at d p (loan_in x)) (sym z) ∙ b)

-- the two changes of a page that is given are one
pub given_is : (c v a b f : ℕ) (s : View) → new_page a b f (freed_page c v f s) ≡ given_page c v a b f s
given_is c v a b f s =
    same_view (new_page a b f (freed_page c v f s)) (given_page c v a b f s) (fun_ext (λ g. twice g)) refl refl refl refl
  where
    twice : (g : ℕ) → cond (eqb g f) (PageOf a b Home) (cond (eqb g f) Idle (s.used g)) ≡ cond (eqb g f) (PageOf a b Home) (s.used g)
    twice g = at1 (λ x. cond (eqb g f) (PageOf a b Home) x ≡ cond (eqb g f) (PageOf a b Home) (s.used g)) g f Idle (s.used g) (λ e. rw e (same1 f _ Idle ∙ sym (same1 f _ (s.used f)))) (λ _. refl)

-- what a page's place says of the frame's number
pub page_frame : (n : ℕ) (r : List ℕ) → Consistent n r → (c v f : ℕ) → place_of r c v ≡ Page f → f < n
page_frame n r K c v f e = (page_at n r K c v f e).0

module _ (n : ℕ) (r t : List ℕ) (K : Consistent n r) (len : length t ≡ length r) where
  pub registers_made : (c v d : ℕ) → place_of r c v ≡ Nothing → device_of r d ≡ Opened c → view_of n t ≡ with_place c v (Registers d) (view_of n r) → tag_of t ≡ with_tag c v 0 (tag_of r) → Made n t (with_place c v (Registers d) (view_of n r))
  registers_made c v d free has e g = (e, changed n r t _ K len e (registers_coherent (view_of n r) K.coherent c v 0 d free has) (tags_at (tag_of r) (tag_of t) (view_of n r) K.tags (view_of n r).used c v 0 (Registers d) g refl (λ _ _ _ _ _. refl)))

  pub opened_made : (m o : List ℕ) (c d f : ℕ) → f < n → use_of r f ≡ Idle → device_of r d ≡ Shut → view_of n m ≡ with_use f (TableOf d Upper) (view_of n r) → view_of n o ≡ with_top d f (view_of n m) →
      view_of n t ≡ with_device d (Opened c) (view_of n o) → tag_of t ≡ tag_of r → Made n t (opened_by c d f (view_of n r))
  opened_made m o c d f l idle shut e k j g =
      let q = j ∙ ap (with_device d (Opened c)) (k ∙ ap (with_top d f) e) in (
        q,
        changed n r t _ K len q (opened_coherent (view_of n r) K.coherent d f c (used_at n r f l ∙ idle) shut)
            (tags_stay (tag_of r) (tag_of t) (view_of n r) K.tags (λ x. cond (eqb x f) (TableOf d Upper) ((view_of n r).used x)) g (no_loan (view_of n r) f (TableOf d Upper) refl (ap loan_in (used_at n r f l ∙ idle)))),
      )

  pub lower_made : (m : List ℕ) (d i f : ℕ) → f < n → use_of r f ≡ Idle → is_shut (device_of r d) ≡ false → low_of r d i ≡ 0 → view_of n m ≡ with_use f (TableOf d (Lower i)) (view_of n r) → view_of n t ≡ with_low d i (f + 1) (view_of n m) →
      tag_of t ≡ tag_of r → Made n t (lower_at d i f (view_of n r))
  lower_made m d i f l idle live none e k g =
      let q = k ∙ ap (λ (x : ℕ). with_low d i x (view_of n m)) (add-one f) ∙ ap (with_low d i (suc f)) e in (
        q,
        changed n r t _ K len q (lower_coherent (view_of n r) K.coherent d i f (used_at n r f l ∙ idle) live none)
            (tags_stay (tag_of r) (tag_of t) (view_of n r) K.tags (λ x. cond (eqb x f) (TableOf d (Lower i)) ((view_of n r).used x)) g (no_loan (view_of n r) f (TableOf d (Lower i)) refl (ap loan_in (used_at n r f l ∙ idle)))),
      )

module _ (n : ℕ) (r t : List ℕ) (K : Consistent n r) (len : length t ≡ length r) (c v d : ℕ) where
  pub unregistered_not : shows_registers d (place_of r c v) ≡ false → view_of n r ≡ unregistered c v d (view_of n r)
  unregistered_not e = sym (same_place c v (view_of n r) (no_registers d (place_of r c v)) (go (place_of r c v) e))
    where
      go : (x : Place) → shows_registers d x ≡ false → x ≡ no_registers d x
      go Nothing e = refl
      go (Page f) e = refl
      go (Registers b) e = rw e

  pub unregistered_made : shows_registers d (place_of r c v) ≡ true → view_of n t ≡ with_place c v Nothing (view_of n r) → tag_of t ≡ with_tag c v 0 (tag_of r) → Made n t (unregistered c v d (view_of n r))
  unregistered_made e k i =
      let q = k ∙ ap (λ (x : Place). with_place c v x (view_of n r)) (go (place_of r c v) e) in (
        q,
        changed n r t _ K len k (hidden_coherent (view_of n r) K.coherent c v 0 (λ g h. false≢true (ap (shows_registers d) (sym h) ∙ e)))
            (tags_at (tag_of r) (tag_of t) (view_of n r) K.tags (view_of n r).used c v 0 Nothing i refl (λ _ _ _ _ _. refl)),
      )
    where
      go : (x : Place) → shows_registers d x ≡ true → Nothing ≡ no_registers d x
      go Nothing e = refl
      go (Page f) e = absurd (false≢true e)
      go (Registers b) e = rw e

table_at_no_page : (c v : ℕ) (u : Use) → (is_page c v u ≡ true → ⊥) → u ≡ no_page c v u
table_at_no_page c v House h = refl
table_at_no_page c v (TableOf d w) h = refl
table_at_no_page c v Idle h = refl
table_at_no_page c v (PageOf a b l) h = cond_both (eqb a c && eqb b v) Idle (PageOf a b l) (λ z. PageOf a b l ≡ z) (λ e. absurd (h e)) (λ _. refl)

-- no other frame is the page of a place
not_there : (n : ℕ) (r : List ℕ) → Consistent n r → (c v : ℕ) (x : Place) → place_of r c v ≡ x → (g : ℕ) → (x ≡ Page g → ⊥) → is_page c v ((view_of n r).used g) ≡ true → ⊥
not_there n r K c v x e g h p = let u = is_page_of c v ((view_of n r).used g) p in h (sym e ∙ page_shown (view_of n r) K.coherent c v g u.0 u.1)

module _ (n : ℕ) (r t : List ℕ) (K : Consistent n r) (len : length t ≡ length r) (c v : ℕ) where
  pub vacated_registers : (d : ℕ) → place_of r c v ≡ Registers d → view_of n t ≡ with_place c v Nothing (view_of n r) → tag_of t ≡ with_tag c v 0 (tag_of r) → Made n t (vacated c v (view_of n r))
  vacated_registers d e k i =
      let q = k ∙ ap (with_place c v Nothing) (same_view (view_of n r) (with_uses (no_page c v) (view_of n r)) (fun_ext (λ g. table_at_no_page c v ((view_of n r).used g) (not_there n r K c v (Registers d) e g (λ q. let z : ◌≡◌ {A = ℕ} 0 1 = cc in omega arith)))) refl refl refl refl) in (
        q,
        changed n r t _ K len k (hidden_coherent (view_of n r) K.coherent c v 0 (λ g h. let j : Registers d ≡ Page g = sym e ∙ h in let z : ◌≡◌ {A = ℕ} 0 1 = cc in omega arith))
            (tags_at (tag_of r) (tag_of t) (view_of n r) K.tags (view_of n r).used c v 0 Nothing i refl (λ _ _ _ _ _. refl)),
      )

-- after a page was freed, its frame can become a page at another place
pub given_ready : (n : ℕ) (r m : List ℕ) → Consistent n r → (c v a b f : ℕ) → place_of r c v ≡ Page f → place_of r a b ≡ Nothing → view_of n m ≡ freed_page c v f (view_of n r) → (place_of m a b ≡ Nothing) × (f < n) × (use_of m f ≡ Idle)
given_ready n r m K c v a b f shown free e =
    let l = page_frame n r K c v f shown in (
      ap (λ (s : View). s.place a b) e ∙ cond_both (eqb a c && eqb b v) Nothing (place_of r a b) (λ z. z ≡ Nothing) (λ _. refl) (λ _. free),
      l,
      sym (used_at n m f l) ∙ ap (λ (s : View). s.used f) e ∙ same1 f Idle ((view_of n r).used f),
    )
