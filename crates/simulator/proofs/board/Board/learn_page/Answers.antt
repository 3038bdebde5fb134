use Rattle.std.proofs.Common.{arith}
use Rattle.house.specs.Machine.{none}
use Rattle.simulator.specs.View.{parts_of}
use Rattle.simulator.proofs.Tricks.{leaf_goes}
use Rattle.simulator.proofs.board.Board.learn_page.Goals as goal

pub returns-in_default : goal.returns-in_default
returns-in_default c = none _ _

pub returns-then-lower-ge512 : goal.returns-then-lower-ge512
returns-then-lower-ge512 c = none _ _

pub returns-in_default-first_set : goal.returns-in_default-first_set
returns-in_default-first_set c = none _ _

pub returns-then-entry-frames : goal.returns-then-entry-frames
returns-then-entry-frames c = none _ _

pub returns : goal.returns
returns c =
    leaf_goes (parts_of c.args.self.now) c.in-Some.lower c.in-Some-first_set.k c.word-entry.result _ _ _ c.in-Some.ensures c.in-Some-first_set.ensures.0 c.word-entry.ensures (omega (arith, c.in-Some-first_set.ensures.1, c.word-entry.ensures)) c.learn.ensures.list
