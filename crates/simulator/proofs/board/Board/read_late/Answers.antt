use Rattle.house.specs.Machine.{none}
use Rattle.simulator.specs.View.{parts_of}
use Rattle.simulator.proofs.Tricks.{take_goes}
use Rattle.simulator.proofs.board.Board.read_late.Goals as goal

pub returns-in-Some : goal.returns-in-Some
returns-in-Some c = take_goes (parts_of c.args.self.now) (parts_of c.take_at.new.self) c.in-Some.by c.below-word.result c.take_at.result c.in-Some.ensures c.below-word.ensures.bound c.take_at.ensures

pub returns-in_default : goal.returns-in_default
returns-in_default c = none _ _
