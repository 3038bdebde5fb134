-- What is taken from a program's places keeps the laws of a sweep. Assumes nothing.
use Rattle.std.proofs.Common.{◌≡◌, ℕ, ◌+◌, false, cond, ◌&&◌, eqb, ltb, sym, refl, ap, ◌∙◌, arith}
use mathlib.Core.Path.{fun_ext}
use Rattle.std.proofs.lemmas.Bool.{eq-eqb, cond_both, le-ltb, false≢true}
use Rattle.ledger.specs.declared.Place.{Place}
use Rattle.ledger.specs.declared.Place.TheVariants.{Nothing, Page, Registers}
use Rattle.ledger.specs.declared.Use.{Use}
use Rattle.ledger.specs.declared.Use.TheVariants.{House, TableOf, Idle, PageOf}
use Rattle.ledger.specs.declared.room.Room.{Room}
use Rattle.ledger.specs.Room.{place_of}
use Rattle.ledger.specs.Rooms.{says}
use Rattle.ledger.specs.View.{View, with_place}
use Rattle.ledger.proofs.Entries.{same_view}
use Rattle.ledger.proofs.Moves.{at2}
use Rattle.ledger.proofs.Closed.{below_zero, below_more}
use Rattle.ledger.proofs.Laws.{page_shown}
use Rattle.ledger.specs.Uses.{shows_registers, shows_any, no_page, no_registers}
use Rattle.ledger.specs.Changes.{unregistered, hidden_below, vacated, ended_below}
use Rattle.ledger.proofs.Emptied.{hidden_none, hidden_more, ended_none, ended_more}
use Rattle.house.specs.Closures.{shows_some, bare, bare_at, bare_below}
use Rattle.house.specs.Sweeps.{SweepLaws}

twice : (x : Place) → bare (bare x) ≡ bare x
twice Nothing = refl
twice (Page f) = refl
twice (Registers d) = refl

pub bare_none : (c : ℕ) (s : View) → s ≡ bare_below c 0 s
bare_none c s = same_view s (bare_below c 0 s) refl (fun_ext (λ a. fun_ext (λ b. below_zero a c b (bare (s.place a b)) (s.place a b)))) refl refl refl

pub bare_more : (c k : ℕ) (s t u : View) → t ≡ bare_below c k s → u ≡ bare_at c k t → u ≡ bare_below c (k + 1) s
bare_more c k s t u e j = j ∙ ap (bare_at c k) e ∙ same_view (bare_at c k (bare_below c k s)) (bare_below c (k + 1) s) refl (fun_ext (λ a. fun_ext (λ b. go a b))) refl refl refl
  where
    at : ℕ → ℕ → Place
    at a b = cond (eqb a c && ltb b k) (bare (s.place a b)) (s.place a b)

    again : (a b : ℕ) → bare (at a b) ≡ bare (s.place a b)
    again a b = cond_both (eqb a c && ltb b k) (bare (s.place a b)) (s.place a b) (λ z. bare z ≡ bare (s.place a b)) (λ _. twice (s.place a b)) (λ _. refl)

    go : (a b : ℕ) → cond (eqb a c && eqb b k) (bare (at c k)) (at a b) ≡ cond (eqb a c && ltb b (k + 1)) (bare (s.place a b)) (s.place a b)
    go a b =
        at2 (λ z. z ≡ cond (eqb a c && eqb b k) (bare (s.place a b)) (at a b)) a c b k (bare (at c k)) (at a b)
        (λ p q. ap bare (ap (λ (x : ℕ). at x k) (sym p) ∙ ap (λ (x : ℕ). at a x) (sym q)) ∙ again a b ∙ sym (rw (eq-eqb a c p, eq-eqb b k q)))
        (λ ne. at2 (λ z. at a b ≡ z) a c b k (bare (s.place a b)) (at a b) (λ p q. absurd (ne (p, q))) (λ _. refl)) ∙ below_more a c b k (bare (s.place a b)) (s.place a b)

-- what a place shows is not taken
no_registers_there : (d : ℕ) (x : Place) → shows_registers d x ≡ false → x ≡ no_registers d x
no_registers_there d Nothing e = refl
no_registers_there d (Page f) e = refl
no_registers_there d (Registers g) e = rw e refl

bare_there : (x : Place) → shows_some x ≡ false → x ≡ bare x
bare_there Nothing e = refl
bare_there (Page f) e = refl
bare_there (Registers d) e = absurd (false≢true (sym e))

nothing_there : (x : Place) → shows_any x ≡ false → x ≡ Nothing
nothing_there Nothing e = refl
nothing_there (Page f) e = absurd (false≢true (sym e))
nothing_there (Registers d) e = absurd (false≢true (sym e))

-- a place is shown as it was
same_place : (s : View) (c k : ℕ) (x : Place) → s.place c k ≡ x → s.place ≡ (with_place c k x s).place
same_place s c k x e = fun_ext (λ a. fun_ext (λ b. at2 (λ z. s.place a b ≡ z) a c b k x (s.place a b) (λ p q. ap (λ (y : ℕ). s.place y b) p ∙ ap (s.place c) q ∙ e) (λ _. refl)))

registers_still : (d : ℕ) (r : Room) (c k : ℕ) → shows_registers d (place_of r.words.now c k) ≡ false → says r ≡ unregistered c k d (says r)
registers_still d r c k e = same_view (says r) (unregistered c k d (says r)) refl (same_place (says r) c k (no_registers d (place_of r.words.now c k)) (no_registers_there d (place_of r.words.now c k) e)) refl refl refl

bare_still : (r : Room) (c k : ℕ) → shows_some (place_of r.words.now c k) ≡ false → says r ≡ bare_at c k (says r)
bare_still r c k e = same_view (says r) (bare_at c k (says r)) refl (same_place (says r) c k (bare (place_of r.words.now c k)) (bare_there (place_of r.words.now c k) e)) refl refl refl

-- where nothing is shown, no page stands
all_still : (r : Room) (c k : ℕ) → shows_any (place_of r.words.now c k) ≡ false → says r ≡ vacated c k (says r)
all_still r c k e = same_view (says r) (vacated c k (says r)) (fun_ext (λ g. go g ((says r).used g) refl)) (same_place (says r) c k Nothing none) refl refl refl
  where
    none : place_of r.words.now c k ≡ Nothing
    none = nothing_there (place_of r.words.now c k) e

    go : (g : ℕ) (u : Use) → (says r).used g ≡ u → u ≡ no_page c k u
    go g House h = refl
    go g (TableOf d w) h = refl
    go g Idle h = refl
    go g (PageOf a b l) h =
        at2 (λ z. PageOf a b l ≡ z) a c b k Idle (PageOf a b l)
        (λ p q. let z : Nothing ≡ Page g = sym none ∙ sym (ap (λ (y : ℕ). place_of r.words.now y b) p ∙ ap (place_of r.words.now c) q) ∙ page_shown (says r) r.consistent.coherent a b g l h in absurd (let y : ◌≡◌ {A = ℕ} 0 1 = cc in omega arith))
        (λ _. refl)

pub registers_taken : (d : ℕ) → SweepLaws (shows_registers d) (λ c k v. unregistered c k d v) (λ c k v. hidden_below c d k v)
registers_taken d = record { none = λ c v. hidden_none c d v; more = λ c k. hidden_more c d k; later = λ c k v. rw (eq-eqb c c refl, le-ltb k k (omega arith)); still = registers_still d }

pub any_registers_taken : SweepLaws shows_some bare_at bare_below
any_registers_taken = record { none = bare_none; more = bare_more; later = λ c k v. rw (eq-eqb c c refl, le-ltb k k (omega arith)); still = bare_still }

pub all_taken : SweepLaws shows_any vacated ended_below
all_taken = record { none = ended_none; more = ended_more; later = λ c k v. rw (eq-eqb c c refl, le-ltb k k (omega arith)); still = all_still }
