-- What is said of the lines, one row a line.
-- Assumes nothing.
use Rattle.std.specs.Prelude.{◌≡◌, ◌+◌, ◌-◌, ◌<◌, Bool, true, false, slice_set}
use Rattle.script.specs.declared.outcomes.Outcome.{Outcome}
use Rattle.tevmalo.specs.declared.sheet.Sheet.{Sheet}
use Rattle.tevmalo.specs.Outcomes.{row, said_of}

-- one more line was read, if there was a row for it, and nothing is said of it yet
abbrev pub Turned : Sheet → Bool → Sheet → Type 0
Turned s true t = (t.lines ≡ s.lines + 1) × (t.rows.now ≡ slice_set s.rows.now s.lines (row 0 0 0))
Turned s false t = t ≡ s

-- this was said of the latest line
abbrev pub Spoke : Sheet → Outcome → Sheet → Type 0
Spoke s o t = (t.lines ≡ s.lines) × (0 < s.lines → t.rows.now ≡ slice_set s.rows.now (s.lines - 1) (said_of o))
