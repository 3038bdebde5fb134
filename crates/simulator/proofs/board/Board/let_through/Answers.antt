use Rattle.house.specs.Machine.{none}
use Rattle.simulator.specs.View.{parts_of}
use Rattle.simulator.proofs.Tricks.{fly_goes}
use Rattle.simulator.proofs.board.Board.let_through.Goals as goal

pub returns-in-Some : goal.returns-in-Some
returns-in-Some c = fly_goes (parts_of c.args.self.now) c.in-Some.page _ _ _ c.in-Some.ensures c.learn.ensures.list

pub returns-in_default : goal.returns-in_default
returns-in_default c = none _ _
