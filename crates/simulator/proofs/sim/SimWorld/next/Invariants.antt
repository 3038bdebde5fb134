use Rattle.simulator.specs.Parts.{Ran}
use Rattle.simulator.specs.View.{parts_of}
use Rattle.simulator.proofs.sim.SimWorld.next.Given as goal

abbrev pub invariant-loop : goal.invariant-loop
invariant-loop g l = Ran (parts_of l.initial.self.board.now) (parts_of l.self.board.now)
