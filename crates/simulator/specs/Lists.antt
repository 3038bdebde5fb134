-- A list in the front of lent memory.
-- Assumes nothing.
use Rattle.std.specs.Prelude.{List, take, reverse}
use Rattle.simulator.specs.declared.front.Front.{Front}

-- what stands in the front, the latest first
abbrev pub newest : {T : Type 0} → Front T → List T
newest f = reverse (take f.count f.all.now)
