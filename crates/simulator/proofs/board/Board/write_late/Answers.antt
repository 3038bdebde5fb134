use Rattle.house.specs.Machine.{none}
use Rattle.simulator.specs.View.{parts_of}
use Rattle.simulator.proofs.Tricks.{put_by_goes}
use Rattle.simulator.proofs.board.Board.write_late.Goals as goal

pub returns-in-Some : goal.returns-in-Some
returns-in-Some c = put_by_goes (parts_of c.args.self.now) (parts_of c.put_at.new.self) c.in-Some.by c.below-word.result c.word-x.result c.put_at.result c.in-Some.ensures c.below-word.ensures.bound c.word-x.type_inv c.put_at.ensures

pub returns-in_default : goal.returns-in_default
returns-in_default c = none _ _
