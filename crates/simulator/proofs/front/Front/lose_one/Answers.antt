use Rattle.std.proofs.Common.{arith}
use Rattle.simulator.proofs.Listed.{none_dropped}
use Rattle.simulator.proofs.front.Front.lose_one.Goals as goal

pub returns-else-n-gt0 : goal.returns-else-n-gt0
returns-else-n-gt0 g c = record { list = none_dropped c.args.self.now.all.now c.args.self.now.count (omega arith); count = omega arith }
