use Rattle.house.specs.Operations.{Cleared}
use Rattle.house.proofs.frames.clear.Given as goal

abbrev pub invariant-loop-k : goal.invariant-loop-k
invariant-loop-k g l = Cleared l.frame (g.M.Machine.hw l.initial.w) (g.M.Machine.seen l.initial.w) l.k (g.M.Machine.hw l.w) (g.M.Machine.seen l.w)
