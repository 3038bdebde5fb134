-- The parts of a line that are read one after another, from the list of the words that are left.
use Rattle.std.specs.Prelude.{ℕ, Bool, true, false, cond, List, [], ◌∷◌, Some, None, Option}

abbrev pub and_then : {A B : Type 0} → Option A → (A → Option B) → Option B
and_then None f = None
and_then (Some a) f = f a

abbrev pub first : {A : Type 0} → (List ℕ → Option A) → List (List ℕ) → Option A
first f [] = None
first f (w ∷ ws) = f w

abbrev pub later : List (List ℕ) → List (List ℕ)
later [] = []
later (w ∷ ws) = ws

abbrev pub at_end : List (List ℕ) → Bool
at_end [] = true
at_end (w ∷ ws) = false

-- The last word, read by f.
abbrev pub last_of : {A : Type 0} → (List ℕ → Option A) → List (List ℕ) → Option A
last_of f ws = and_then (first f ws) (λ a. cond (at_end (later ws)) (Some a) None)

-- What is read where no word is left.
abbrev pub alone : {A : Type 0} → A → List (List ℕ) → Option A
alone a [] = Some a
alone a (w ∷ ws) = None
