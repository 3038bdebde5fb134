-- A line's words: what stands between its spaces. A space at either end, or two in a row, make an empty word.
use Rattle.std.specs.Prelude.{ℕ, List, ◌==◌}
use Rattle.std.specs.List.{slice_split}

abbrev pub words_of : List ℕ → List (List ℕ)
words_of bs = slice_split (λ c. c == 32) bs
