-- What the keeper has asked of the machine in several operations, with the steps of devices and the unit between them.
-- Nothing is assumed here.
use Rattle.std.specs.Prelude.{◌≡◌, ℕ, suc, ◌+◌, List}
use Rattle.house.specs.Event.{Event}
use Rattle.house.specs.Machine.{Hw, Steps, counted, with_mem, put}

-- the first words of frame f were made 0, one after the other
pub data Clears (f : ℕ) (h : Hw) (es : List Event) : ℕ → Hw → List Event → Type 0 where
  none : Clears f h es 0 h es
  more : {n : ℕ} {i j : Hw} {fs gs : List Event} → Clears f h es n i fs → Steps (counted (with_mem (put f n 0 i.mem) i)) fs j gs → Clears f h es (suc n) j gs

-- with what that leaves as it was: each takes one operation
pub record Cleared (f : ℕ) (h : Hw) (es : List Event) (n : ℕ) (j : Hw) (gs : List Event) : Type 0 where
  pub words : Clears f h es n j gs
  pub left : j.left + n ≡ h.left
  pub frames : j.frames ≡ h.frames
  pub devices : j.devices ≡ h.devices

-- one operation was asked for: the count falls by one, and the machine's shape stays
pub record Asked1 (h j : Hw) : Type 0 where
  pub left : j.left + 1 ≡ h.left
  pub frames : j.frames ≡ h.frames
  pub devices : j.devices ≡ h.devices
