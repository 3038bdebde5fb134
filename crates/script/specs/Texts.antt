-- The text of what came of a line.
use Rattle.std.specs.Prelude.{ℕ, List, ◌++◌, codes, decimal}
use Rattle.script.specs.declared.outcomes.Outcome.{Outcome}
use Rattle.script.specs.declared.outcomes.Outcome.TheVariants.{Done, Later, No, Loaded, Stored, Fault, Poked, Took, Put, Miss, Kept, Nothing, NotYet, Over, BadLine}

abbrev pub text_of : Outcome → List ℕ
text_of Done = codes "done"
text_of Later = codes "later"
text_of (No n) = codes "no " ++ decimal n
text_of (Loaded x) = codes "load " ++ decimal x
text_of Stored = codes "stored"
text_of Fault = codes "fault"
text_of Poked = codes "poked"
text_of (Took x) = codes "took " ++ decimal x
text_of Put = codes "put"
text_of Miss = codes "miss"
text_of Kept = codes "kept"
text_of Nothing = codes "nothing"
text_of NotYet = codes "not yet"
text_of Over = codes "over"
text_of (BadLine k) = (codes "line " ++ decimal k) ++ codes "?"
