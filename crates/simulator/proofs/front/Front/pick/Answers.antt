use Rattle.std.proofs.Common.{arith}
use Rattle.simulator.proofs.Listed.{chosen}
use Rattle.simulator.proofs.front.Front.pick.Goals as goal

pub returns : goal.returns
returns g c = chosen c.items.result.now _ c.below-i.result _ c.items.ensures.items (omega arith) c.index-items-i.is
