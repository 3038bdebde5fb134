-- What becomes of a list of what is kept.
-- Assumes nothing.
use Rattle.std.specs.Prelude.{ℕ, Bool, cond, not, List, ◌∷◌, filter, ◌==◌, nat_lt}
use Rattle.std.specs.List.{list_any}

abbrev pub among : {T : Type 0} → (T → T → Bool) → T → List T → Bool
among eq x xs = list_any (λ y. eq y x) xs

-- one is noted once, and only where there is room: n are there, of at most m
abbrev pub learnt : {T : Type 0} → (T → T → Bool) → T → ℕ → ℕ → List T → List T
learnt eq x n m xs = cond (among eq x xs) xs (cond (nat_lt n m) (x ∷ xs) xs)

-- all but what is of device d
abbrev pub without : {T : Type 0} → (T → ℕ) → ℕ → List T → List T
without device d xs = filter (λ x. not (d == device x)) xs
