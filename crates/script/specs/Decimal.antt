-- Decimal numbers: digits only, at least one, leading noughts allowed, of any length.
use Rattle.std.specs.Prelude.{ℕ, ◌+◌, ◌-◌, ◌*◌, ◌^◌, min, Bool, ◌&&◌, cond, List, length, Some, None, Option, nat_lt, fold}
use Rattle.std.specs.Option.{option_map, option_flatten}
use Rattle.std.specs.Char.{is_ascii_digit}
use Rattle.std.specs.List.{list_all}

abbrev pub is_number : List ℕ → Bool
is_number w = nat_lt 0 (length w) && list_all is_ascii_digit w

-- The value of digits, from the left: each stands behind the number that the ones before it write.
abbrev pub value : List ℕ → ℕ
value ds = fold (λ n c. n * 10 + (c - 48)) 0 ds

-- What a word writes, if it is a number.
abbrev pub number_of : List ℕ → Option ℕ
number_of w = cond (is_number w) (Some (value w)) None

-- A number, or 2^32 - 1 where it is larger.
abbrev pub index_of : List ℕ → Option ℕ
index_of w = option_map (λ n. min n (2 ^ 32 - 1)) (number_of w)

abbrev pub below : ℕ → ℕ → Option ℕ
below limit n = cond (nat_lt n limit) (Some n) None

-- A number below 2^64.
abbrev pub exact_of : List ℕ → Option ℕ
exact_of w = option_flatten (option_map (below (2 ^ 64)) (number_of w))
