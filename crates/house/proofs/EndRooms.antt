-- The rooms between the steps of an end: what is said of each for as many frames as there were at its beginning.
use Rattle.std.proofs.Common.{◌≡◌, ℕ, Bool, List, subst}
use Rattle.ledger.specs.declared.room.Room.{Room}
use Rattle.ledger.specs.Room.{device_of}
use Rattle.ledger.specs.View.{view_of}
use Rattle.ledger.specs.Uses.{owner_is}
use Rattle.ledger.specs.Consistent.{Consistent}
use Rattle.ledger.specs.Rooms.{says, Becomes}
use Rattle.ledger.proofs.Becoming.{becomes_as}
use Rattle.house.specs.Event.{Event}
use Rattle.house.specs.Machine.{Hw}
use Rattle.house.specs.Closures.{bare_below, bared, ClosedSoFar}
use Rattle.house.proofs.Bared.{bare_all}

-- no place of p shows registers
pub bared_room : (a b : Room) (p : ℕ) → Becomes a (bare_below p 1024 (says a)) b → Becomes a (bared p (says a)) b
bared_room a b p h = becomes_as a b _ _ (bare_all a.frames a.words.now p) h

pub closed_for : {n p m : ℕ} {i j : Hw} {fs gs : List Event} (a b : Room) (all : Bool) → a.frames ≡ n → ClosedSoFar (λ d. owner_is p (device_of a.words.now d)) p (says a) i fs m (view_of a.frames b.words.now) all j gs →
    ClosedSoFar (λ d. owner_is p (device_of a.words.now d)) p (view_of n a.words.now) i fs m (view_of n b.words.now) all j gs
closed_for {p = p} {m = m} {i = i} {j = j} {fs = fs} {gs = gs} a b all e c = subst (λ (k : ℕ). ClosedSoFar (λ (d : ℕ). owner_is p (device_of a.words.now d)) p (view_of k a.words.now) i fs m (view_of k b.words.now) all j gs) e c

pub kept_for : {n : ℕ} (a : Room) → a.frames ≡ n → Consistent n a.words.now
kept_for a e = subst (λ (k : ℕ). Consistent k a.words.now) e a.consistent
