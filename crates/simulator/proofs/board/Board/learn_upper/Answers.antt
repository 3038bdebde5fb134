use Rattle.std.proofs.Common.{arith}
use Rattle.house.specs.Machine.{none}
use Rattle.simulator.specs.View.{parts_of}
use Rattle.simulator.proofs.Tricks.{up_goes}
use Rattle.simulator.proofs.board.Board.learn_upper.Goals as goal

pub returns-then-n-eq0 : goal.returns-then-n-eq0
returns-then-n-eq0 c = none _ _

pub returns-then-top-eq0 : goal.returns-then-top-eq0
returns-then-top-eq0 c = none _ _

pub returns : goal.returns
returns c = up_goes (parts_of c.args.self.now) c.below-device.result _ _ _ _ c.if-not-self.false (omega arith) (omega (arith, c.word-top.ensures)) c.learn.ensures.list
