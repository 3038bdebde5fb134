use Rattle.std.proofs.Common.{◌-◌}
use Rattle.house.specs.Meaning.{Quiet}
use Rattle.house.specs.Serving.{Keeps}
use Rattle.house.proofs.rounds.Given as goal

abbrev pub invariant-loop-t : goal.invariant-loop-t
invariant-loop-t g l = Keeps l.room Quiet (g.W.Machine.hw l.w) (g.W.Machine.seen l.w)

abbrev pub decreases-loop-t : goal.decreases-loop-t
decreases-loop-t g l = l.turns - l.t
