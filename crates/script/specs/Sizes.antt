-- Numbers as the code has them: those below 2^64.
use Rattle.std.specs.Prelude.{ℕ, ◌^◌, cond, Some, None, Ok, Err, Option, Result, nat_lt}
use Rattle.script.specs.declared.numbers.NumberError.{NumberError}
use Rattle.script.specs.declared.numbers.NumberError.TheVariants.{NotDigits, TooLarge}

-- What is read, from what a word writes.
abbrev pub sized : Option ℕ → Result ℕ NumberError
sized None = Err NotDigits
sized (Some n) = cond (nat_lt n (2 ^ 64)) (Ok n) (Err TooLarge)
