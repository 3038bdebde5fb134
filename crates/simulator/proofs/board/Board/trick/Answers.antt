use Rattle.house.specs.Machine.{none}
use Rattle.simulator.proofs.board.Board.trick.Goals as goal

pub returns-in_default : goal.returns-in_default
returns-in_default c = none _ _
