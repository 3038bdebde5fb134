use Rattle.house.specs.Machine.{none}
use Rattle.simulator.proofs.Asked.{steps_then}
use Rattle.simulator.proofs.board.Board.play.Goals as goal

pub returns-in_default-clause-goes : goal.returns-in_default-clause-goes
returns-in_default-clause-goes c = none _ _

pub loop-init : goal.loop-init
loop-init c = none _ _

pub loop-preserved : goal.loop-preserved
loop-preserved c = steps_then c.loop.invariant c.trick.ensures
