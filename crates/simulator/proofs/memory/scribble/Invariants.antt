use Rattle.std.proofs.Common.{ℕ, ◌^◌, ◌<◌, get_or}
use Rattle.simulator.proofs.memory.scribble.Given as goal

abbrev pub invariant-loop-i : goal.invariant-loop-i
invariant-loop-i l = ((k : ℕ) → k < l.i → 0 < get_or l.words k 0) × ((k : ℕ) → k < l.i → get_or l.words k 0 < 2 ^ 64)
