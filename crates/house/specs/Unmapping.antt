-- Places of a program's address space that the keeper has unmapped, one after the other.
-- Nothing is assumed here.
use Rattle.std.specs.Prelude.{◌≡◌, ℕ, zero, suc, ◌+◌, Bool, true, false, List}
use Rattle.house.specs.Event.{Event}
use Rattle.house.specs.Machine.{Hw, Nothing, Steps, counted, shows}

-- of the first places of c, those that pass the test q were unmapped
pub data Hides (c : ℕ) (q : ℕ → Bool) (h : Hw) (es : List Event) : ℕ → Hw → List Event → Type 0 where
  none : Hides c q h es 0 h es
  skip : {n : ℕ} {j : Hw} {gs : List Event} → Hides c q h es n j gs → q n ≡ false → Hides c q h es (suc n) j gs
  more : {n : ℕ} {i j : Hw} {fs gs : List Event} → Hides c q h es n i fs → q n ≡ true → Steps (counted (shows c n Nothing i)) fs j gs → Hides c q h es (suc n) j gs

-- how many of the first n pass
abbrev pub one_if : Bool → ℕ
one_if true = 1
one_if false = 0

unfoldable pub count : (ℕ → Bool) → ℕ → ℕ
count q zero = 0
count q (suc n) = count q n + one_if (q n)

-- with what that leaves as it was: each takes one operation
pub record Hid (c : ℕ) (q : ℕ → Bool) (h : Hw) (es : List Event) (n : ℕ) (j : Hw) (gs : List Event) : Type 0 where
  pub places : Hides c q h es n j gs
  pub left : j.left + count q n ≡ h.left
  pub frames : j.frames ≡ h.frames
  pub devices : j.devices ≡ h.devices
