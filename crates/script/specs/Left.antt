-- The words that are still to be read.
use Rattle.std.specs.Prelude.{ℕ, List, [], Some, None, Option}
use denote.Ref.{Bor}
use Rattle.script.specs.Spaces.{words_of}

abbrev pub left : Option (Bor (List ℕ)) → List (List ℕ)
left None = []
left (Some rest) = words_of rest.now
