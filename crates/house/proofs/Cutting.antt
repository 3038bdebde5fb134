-- The upper table of a device is taken out of frame 0 while a call is under way.
use Rattle.std.proofs.Common.{◌≡◌, ℕ, suc, Bool, true, false, cond, not, ◌||◌, T, eqb, List, sym, refl, ap, ◌∙◌, subst, ⊎_elim, eqb→eq, T_not}
use Rattle.ledger.specs.declared.Loan as loans
use Rattle.ledger.specs.declared.Loan.TheVariants as loan
use Rattle.ledger.specs.declared.mapping.Mapping.{Mapping}
use Rattle.ledger.specs.declared.Use as uses
use Rattle.ledger.specs.declared.Use.TheVariants as used
use Rattle.ledger.specs.View as ledger
use Rattle.house.specs.Event.{Event}
use Rattle.house.specs.Machine.{Hw, counted, with_mem, put}
use Rattle.house.specs.Meaning.{Lent, Use, Of, is_in, Now}
use Rattle.house.specs.Sound.{is_page}
use Rattle.house.specs.Sound as sound
use Rattle.house.specs.Kept.{use_meant, loan_meant}
use Rattle.house.specs.Serving.{Progress, Holds}
use Rattle.house.proofs.Shelf.{either}
use Rattle.house.proofs.Uses.{pageless, lent}
use Rattle.house.proofs.Tables.{unlink}
use Rattle.house.proofs.PageWords.{words_put}
use Rattle.house.proofs.Mappings.{mapping}

-- d's upper table is out of frame 0 already
abbrev pub cutting : ℕ → Progress → Progress
cutting d p = record { cut = λ e. eqb e d || p.cut e; hidden = p.hidden; yeses = p.yeses; noes = p.noes }

-- nothing is lent to d
abbrev pub Unlent : ledger.View → ℕ → Type 0
Unlent v d = (f c u q : ℕ) (w : Bool) → v.used f ≡ used.PageOf c u (loan.Lent (mapping d q w)) → ⊥

same_mapping : (m : Mapping) (d p : ℕ) (w : Bool) → m.device ≡ d → m.page ≡ p → m.writes ≡ w → m ≡ mapping d p w
same_mapping m d p w a b e = rw (sym a, sym b, sym e) refl

lent_loan : (l : loans.Loan) (d q : ℕ) (w : Bool) → loan_meant l ≡ Lent d q w → l ≡ loan.Lent (mapping d q w)
unfolding loan_meant
lent_loan loan.Home d q w e = absurd (subst lent (sym e) tt)
lent_loan (loan.Lent m) d q w e = ap loan.Lent (same_mapping m d q w (cc) (cc) (cc))
lent_loan (loan.Leaving m) d q w e = absurd (subst lent (sym e) tt)

-- a page that the meaning has lent
pub lent_meant : (x : uses.Use) (c u d q : ℕ) (w : Bool) → use_meant x ≡ Of c u (Lent d q w) → x ≡ used.PageOf c u (loan.Lent (mapping d q w))
unfolding use_meant
lent_meant used.House c u d q w e = absurd (subst pageless e tt)
lent_meant (used.TableOf a b) c u d q w e = absurd (subst pageless e tt)
lent_meant used.Idle c u d q w e = absurd (subst pageless e tt)
lent_meant (used.PageOf a b l) c u d q w e =
    let x : a ≡ c = cc in
    let y : b ≡ u = cc in
    let z = lent_loan l d q w (cc) in
    cc

cut_too : (b t : Bool) (x y : ℕ) → x ≡ cond t 0 y → cond b 0 x ≡ cond (b || t) 0 y
cut_too true t x y e = refl
cut_too false t x y e = e

cut_nothing : (b t : Bool) (x : ℕ) → (T t → x ≡ 0) → T (b || t) → cond b 0 x ≡ 0
cut_nothing true t x f h = refl
cut_nothing false t x f h = f h

pub cut_root : {v : ledger.View} {p : Progress} {n : Now} {h : Hw} {es : List Event} (d : ℕ) → Unlent v d → T (not (is_in d p.yeses)) → Holds v p n h es → Holds v (cutting d p) n (counted (with_mem (put 0 d 0 h.mem) h)) es
unfolding is_page
cut_root {v} {p} {n} {h} {es} d un no_yes a = record {
  fits = a.fits;
  state = a.state;
  run = a.run;
  shape = a.shape;
  drained_are = a.drained_are;
  undrained_are = a.undrained_are;
  kept = a.kept;
  sound = unlink a.sound d (λ f c u q w b e. un f c u q w (lent_meant (v.used f) c u d q w (sym (a.kept.uses_are f) ∙ e)));
  words = words_put (sound.view_of a.state) a.words 0 d 0 (subst (λ (y : Use). T (not (is_page y))) (sym a.sound.house) tt);
  live = a.live;
  shown = a.shown;
  roots = λ e c q. cut_too (eqb e d) (p.cut e) (h.mem 0 e) (suc (v.top e)) (a.roots e c q);
  severed = λ e t. cut_nothing (eqb e d) (p.cut e) (h.mem 0 e) (a.severed e) t;
  forgot = λ e t i.
      ⊎_elim (λ (z : T (eqb e d)). absurd (T_not (is_in d p.yeses) no_yes (subst (λ (y : ℕ). T (is_in y p.yeses)) (eqb→eq e d z) i))) (λ (z : T (p.cut e)). a.forgot e z i) (either (eqb e d) (p.cut e) t);
}
