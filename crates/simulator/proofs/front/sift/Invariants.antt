use Rattle.simulator.proofs.Listed.{Sifting}
use Rattle.simulator.proofs.front.sift.Given as goal

abbrev pub invariant-loop-i : goal.invariant-loop-i
invariant-loop-i g l = Sifting g.T.Cached.device_of l.d l.initial.all l.all l.kept l.i
