-- Places that a sweep passes over since nothing of the kind is shown there.
use Rattle.std.proofs.Common.{◌≡◌, ℕ, ◌+◌, ◌<◌, Bool, false, List, sym, ap, ◌∙◌, refl}
use Rattle.ledger.specs.declared.Place.{Place}
use Rattle.ledger.specs.declared.room.Room.{Room}
use Rattle.ledger.specs.Room.{place_of}
use Rattle.ledger.specs.Rooms.{says, Becomes}
use Rattle.ledger.specs.View.{View}
use Rattle.ledger.proofs.Becoming.{becomes_then}
use Rattle.ledger.proofs.Passed.{passed}
use Rattle.house.specs.Event.{Event}
use Rattle.house.specs.Machine.{Hw}
use Rattle.house.specs.Sweeps.{SweepLaws}
use Rattle.house.specs.Unmapping.{Hid}
use Rattle.house.proofs.Unmapped.{hid_skip}

module _ {shows : Place → Bool} {at below : ℕ → ℕ → View → View} (laws : SweepLaws shows at below) (a b : Room) (c : ℕ) (h : Hw) (es : List Event) (j : Hw) (gs : List Event) where
  -- the room has become what it is by the sweep below v, and the places that showed something there are unmapped
  abbrev Swept : ℕ → Type 0
  Swept v = Becomes a (below c v (says a)) b × Hid c (λ u. shows (place_of a.words.now c u)) h es v j gs

  -- what a place shows that the sweep has not come to, it showed at the beginning
  not_shown : (v : ℕ) → Becomes a (below c v (says a)) b → shows (place_of b.words.now c v) ≡ false → shows (place_of a.words.now c v) ≡ false
  not_shown v s e = sym (ap (λ (z : View). shows (z.place c v)) s.2 ∙ laws.later c v (says a)) ∙ e

  -- 64 places, from v on
  pub passed_over : (v : ℕ) → ((k : ℕ) → k < 64 → shows (place_of b.words.now c (v + k)) ≡ false) → Swept v → Swept (v + 64)
  passed_over v none s =
      passed Swept v 64
      (λ k l t. (
        becomes_then a b b (below c (v + k) (says a)) (below c (v + k + 1) (says a)) (at c (v + k)) t.0 (refl, refl, laws.still b c (v + k) (none k l), refl) (laws.more c (v + k) (says a) (below c (v + k) (says a)) _ refl refl),
        hid_skip t.1 (not_shown (v + k) t.0 (none k l)),
      )) s
