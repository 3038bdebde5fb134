-- What a search over the room finds.
use Rattle.std.specs.Prelude.{◌≡◌, ℕ, ◌<◌, ◌≤◌, List}
use Rattle.ledger.specs.declared.Use.TheVariants.{Idle}
use Rattle.ledger.specs.Room.{use_of}

-- Of n frames f is an idle one: the first from frame a on, if one is idle there.
abbrev pub NextIdle : List ℕ → ℕ → ℕ → ℕ → Type 0
NextIdle r n a f = (f < n) × (use_of r f ≡ Idle) × ((g : ℕ) → a ≤ g → g < n → use_of r g ≡ Idle → (a ≤ f) × (f ≤ g))
