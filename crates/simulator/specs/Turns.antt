-- What one line of a script brings: it goes on, a program asks, or all is over.
-- Assumes nothing.
use Rattle.std.specs.Prelude.{ℕ, Option, Some, None, Result, Ok, Err}
use Rattle.house.specs.declared.Call.{Call}
use Rattle.house.specs.Machine.{Comes}
use Rattle.simulator.specs.declared.sim.Ended.{Ended}
use Rattle.simulator.specs.Parts.{Parts, hw_of, seen_of, Ran}

abbrev pub Turned : Parts → Result (Option (ℕ × Call)) Ended → Parts → Type 0
Turned p (Ok None) q = Ran p q
Turned p (Ok (Some a)) q = Comes (hw_of p) (seen_of p) (Some a) (hw_of q) (seen_of q)
Turned p (Err e) q = Ran p q
