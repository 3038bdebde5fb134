-- How lines are counted: each that is read has the next number, and where none is read the count stays.
use Rattle.std.specs.Prelude.{◌≡◌, ℕ, ◌+◌, ◌-◌, ◌^◌, min, Some, None, Ok, Err, Option, Result}

abbrev pub Counted : {E : Type 0} → ℕ → Result (Option ℕ) E → ℕ → Type 0
Counted n (Ok (Some k)) m = (k ≡ min (n + 1) (2 ^ 64 - 1)) × (m ≡ k)
Counted n (Ok None) m = m ≡ n
Counted n (Err e) m = m ≡ n
