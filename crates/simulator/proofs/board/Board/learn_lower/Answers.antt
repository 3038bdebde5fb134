use Rattle.std.proofs.Common.{arith}
use Rattle.house.specs.Machine.{none}
use Rattle.simulator.specs.View.{parts_of}
use Rattle.simulator.proofs.Tricks.{mid_goes}
use Rattle.simulator.proofs.board.Board.learn_lower.Goals as goal

pub returns-in_default : goal.returns-in_default
returns-in_default c = none _ _

pub returns-in_default-first_set : goal.returns-in_default-first_set
returns-in_default-first_set c = none _ _

pub returns-then-low-frames : goal.returns-then-low-frames
returns-then-low-frames c = none _ _

pub returns : goal.returns
returns c =
    mid_goes (parts_of c.args.self.now) c.in-Some.upper c.in-Some-first_set.slot _ _ _ _ c.in-Some.ensures c.in-Some-first_set.ensures.0 (omega (arith, c.in-Some-first_set.ensures.1, c.word-low.ensures)) c.learn.ensures.list
