-- A place of a program that is ended, before and after its registers and its pages are hidden.
use Rattle.std.proofs.Common.{◌≡◌, ℕ, ◌<◌, Bool, true, false, cond, ◌&&◌, ◌||◌, eqb, ltb, [], sym, refl, ap, ◌∙◌, ⊎_elim}
use Rattle.std.proofs.lemmas.Bool.{cases_eq, eq-eqb, ne_eqb, lt-ltb, cond_both, false≢true}
use Rattle.ledger.specs.declared.Use as uses
use Rattle.ledger.specs.declared.Use.TheVariants as used
use Rattle.ledger.specs.declared.Place.{Place}
use Rattle.ledger.specs.declared.Place.TheVariants as place
use Rattle.ledger.specs.View as ledger
use Rattle.ledger.specs.Uses as tests
use Rattle.house.specs.Machine.{Nothing}
use Rattle.house.specs.Meaning
use Rattle.house.specs.Meaning.{Use, Of, not_of}
use Rattle.house.specs.Kept.{use_meant, loan_meant, regs_meant, shown_meant}
use Rattle.house.specs.Serving.{nothing_cut}
use Rattle.house.specs.Closures.{shows_some, bare}
use Rattle.house.proofs.Unmapped.{hiding_below}

-- a place of w, before and after its registers and its pages are hidden
pub bare_shown : (x : Place) (t : Bool) → t ≡ shows_some x → cond (t || false) Nothing (shown_meant x) ≡ shown_meant (bare x)
unfolding shown_meant
bare_shown place.Nothing true e = refl
bare_shown place.Nothing false e = refl
bare_shown (place.Page f) true e = absurd (false≢true (sym e))
bare_shown (place.Page f) false e = refl
bare_shown (place.Registers d) true e = refl
bare_shown (place.Registers d) false e = absurd (false≢true e)

pub none_shown : (x : Place) (r t : Bool) → r ≡ tests.shows_any (bare x) → t ≡ shows_some x → cond (r || (t || false)) Nothing (shown_meant x) ≡ Nothing
unfolding shown_meant
none_shown place.Nothing true t q e = refl
none_shown place.Nothing false true q e = refl
none_shown place.Nothing false false q e = refl
none_shown (place.Page f) true t q e = refl
none_shown (place.Page f) false t q e = absurd (false≢true q)
none_shown (place.Registers d) true t q e = refl
none_shown (place.Registers d) false true q e = refl
none_shown (place.Registers d) false false q e = absurd (false≢true e)

-- the places that were hidden first: registers
abbrev pub hid_first : ledger.View → ℕ → ℕ → ℕ → Bool
hid_first v w = (hiding_below w (λ u. shows_some (v.place w u)) 1024 (nothing_cut [] [])).hidden

-- and then the pages
abbrev pub hid_then : ledger.View → ℕ → (ℕ → Bool) → ℕ → ℕ → Bool
hid_then v w q a b = (eqb a w && (ltb b 1024 && q b)) || hid_first v w a b

pub shown_bared : (v : ledger.View) (w a u : ℕ) → u < 1024 → cond (hid_first v w a u) Nothing (shown_meant (v.place a u)) ≡ shown_meant (cond (eqb a w) (bare (v.place a u)) (v.place a u))
shown_bared v w a u lt =
    ⊎_elim (λ (q : a ≡ w). rw (eq-eqb a w q, lt-ltb u 1024 lt) (bare_shown (v.place a u) (shows_some (v.place w u)) (ap (λ (z : ℕ). shows_some (v.place z u)) (sym q)))) (λ (n : a ≡ w → ⊥). rw (ne_eqb a w n)) (cases_eq a w)

pub shown_ended : (v : ledger.View) (w : ℕ) (q : ℕ → Bool) → ((u : ℕ) → q u ≡ tests.shows_any (bare (v.place w u))) → (a u : ℕ) → u < 1024 →
    cond (hid_then v w q a u) Nothing (shown_meant (v.place a u)) ≡ shown_meant (cond (eqb a w) place.Nothing (cond (eqb a w) (bare (v.place a u)) (v.place a u)))
unfolding shown_meant
shown_ended v w q is a u lt =
    ⊎_elim (λ (z : a ≡ w). rw (eq-eqb a w z, lt-ltb u 1024 lt) (none_shown (v.place a u) (q u) (shows_some (v.place w u)) (is u ∙ ap (λ (y : ℕ). tests.shows_any (bare (v.place y u))) (sym z)) (ap (λ (y : ℕ). shows_some (v.place y u)) (sym z))))
    (λ (n : a ≡ w → ⊥). rw (ne_eqb a w n)) (cases_eq a w)

pub meant_not_of : (w : ℕ) (x : uses.Use) → not_of w (use_meant x) ≡ use_meant (tests.not_of w x)
unfolding not_of use_meant
meant_not_of w used.House = refl
meant_not_of w (used.TableOf d t) = refl
meant_not_of w used.Idle = refl
meant_not_of w (used.PageOf a b l) = cond_both (eqb w a) used.Idle (used.PageOf a b l) (λ z. cond (eqb w a) Meaning.Idle (Of a b (loan_meant l)) ≡ use_meant z) (λ q. rw q) (λ q. rw q)

pub registers_bared : (t : Bool) (x : Place) → regs_meant (cond t (bare x) x) ≡ regs_meant (cond t place.Nothing (cond t (bare x) x))
unfolding regs_meant
registers_bared true place.Nothing = refl
registers_bared true (place.Page f) = refl
registers_bared true (place.Registers d) = refl
registers_bared false x = refl
