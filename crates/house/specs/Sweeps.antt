-- What a sweep over a program's places rests on.
-- Nothing is assumed here.
use Rattle.std.specs.Prelude.{◌≡◌, ℕ, ◌+◌, Bool, false}
use Rattle.ledger.specs.declared.Place.{Place}
use Rattle.ledger.specs.declared.room.Room.{Room}
use Rattle.ledger.specs.Room.{place_of}
use Rattle.ledger.specs.Rooms.{says}
use Rattle.ledger.specs.View.{View}

-- shows says what is taken from a place; at and below are a view once it is taken from place k of c, and from those below k
pub record SweepLaws (shows : Place → Bool) (at below : ℕ → ℕ → View → View) : Type 0 where
  pub none : (c : ℕ) (v : View) → v ≡ below c 0 v
  pub more : (c k : ℕ) (s t u : View) → t ≡ below c k s → u ≡ at c k t → u ≡ below c (k + 1) s
  -- a place that the sweep has not come to shows what it showed
  pub later : (c k : ℕ) (v : View) → shows ((below c k v).place c k) ≡ shows (v.place c k)
  -- and where a place does not show it, nothing is taken
  pub still : (r : Room) (c k : ℕ) → shows (place_of r.words.now c k) ≡ false → says r ≡ at c k (says r)
