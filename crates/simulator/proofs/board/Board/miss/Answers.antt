use Rattle.house.specs.Machine.{none}
use Rattle.simulator.specs.View.{parts_of}
use Rattle.simulator.proofs.Tricks.{miss_goes}
use Rattle.std.proofs.Common.{arith}
use Rattle.simulator.proofs.board.Board.miss.Goals as goal

pub returns-then-n-eq0 : goal.returns-then-n-eq0
returns-then-n-eq0 c = none _ _

pub returns : goal.returns
returns c =
    miss_goes (parts_of c.args.self.now) (parts_of c.miss_at.new.self) c.below-d.result c.below-p.result _ c.miss_at.result (omega arith) c.below-p.ensures.bound c.miss_at.ensures
