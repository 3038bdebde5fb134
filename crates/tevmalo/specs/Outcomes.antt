-- What is said of a line, as a row of numbers: a kind, the number of a refusal, and a word or a line's number.
-- Assumes nothing.
use Rattle.std.specs.Prelude.{ℕ}
use Rattle.script.specs.declared.outcomes.Outcome.{Outcome}
use Rattle.script.specs.declared.outcomes.Outcome.TheVariants.{Done, Later, No, Loaded, Stored, Fault, Poked, Took, Put, Miss, Kept, Nothing, NotYet, Over, BadLine}
use Rattle.tevmalo.specs.declared.said.Said.{Said}

abbrev pub row : ℕ → ℕ → ℕ → Said
row k n w = record { kind = k; reason = n; x = w }

abbrev pub said_of : Outcome → Said
said_of NotYet = row 0 0 0
said_of Done = row 1 0 0
said_of Later = row 2 0 0
said_of (No n) = row 3 n 0
said_of (Loaded w) = row 4 0 w
said_of Stored = row 5 0 0
said_of Fault = row 6 0 0
said_of Poked = row 7 0 0
said_of (Took w) = row 8 0 w
said_of Put = row 9 0 0
said_of Miss = row 10 0 0
said_of Kept = row 11 0 0
said_of Nothing = row 12 0 0
said_of Over = row 13 0 0
said_of (BadLine k) = row 14 0 k
