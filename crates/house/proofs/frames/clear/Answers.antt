use Rattle.house.proofs.Clearing.{cleared_none, cleared_more}
use Rattle.house.proofs.frames.clear.Goals as goal
use Rattle.std.proofs.Common.{arith}

pub loop-k-init : goal.loop-k-init
loop-k-init g c = cleared_none _ _ _

pub loop-k-preserved : goal.loop-k-preserved
loop-k-preserved g c = cleared_more c.loop-k.invariant (omega arith) c.put.ensures
