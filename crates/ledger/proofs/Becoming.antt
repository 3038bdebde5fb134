-- What a room becomes in several steps.
use Rattle.std.proofs.Common.{◌≡◌, ℕ, List, sym, ap, ◌∙◌, subst}
use Rattle.ledger.specs.declared.room.Room.{Room}
use Rattle.ledger.specs.View.{View, view_of}
use Rattle.ledger.specs.Consistent.{Consistent}
use Rattle.ledger.specs.Rooms.{says, Becomes}

-- it is consistent still, for as many frames as before
pub still : (a b : Room) (s : View) → Becomes a s b → Consistent a.frames b.words.now
still a b s h = subst (λ (n : ℕ). Consistent n b.words.now) h.0 b.consistent

-- what was written into it is consistent, for as many frames as it has
pub restated : (a b : Room) (s : View) (ws : List ℕ) → Becomes a s b → Consistent a.frames ws → Consistent b.frames ws
restated a b s ws h k = subst (λ (n : ℕ). Consistent n ws) (sym h.0) k

pub becomes_as : (a q : Room) (s t : View) → s ≡ t → Becomes a s q → Becomes a t q
becomes_as a q s t e h = (h.0, h.1, h.2 ∙ e, h.3)

-- what the second step says of the room between, in terms of the frames at the beginning
pub seen_from : (a b q : Room) (s : View) (φ : View → View) → Becomes a s b → Becomes b (φ (says b)) q → view_of a.frames q.words.now ≡ φ (view_of a.frames b.words.now)
seen_from a b q s φ h k = subst (λ (n : ℕ). view_of n q.words.now ≡ φ (view_of n b.words.now)) h.0 k.2

pub becomes_then : (a b q : Room) (s t : View) (φ : View → View) → Becomes a s b → Becomes b (φ (says b)) q → φ s ≡ t → Becomes a t q
becomes_then a b q s t φ h k e = (k.0 ∙ h.0, k.1 ∙ h.1, seen_from a b q s φ h k ∙ ap φ h.2 ∙ e, k.3 ∙ h.3)
