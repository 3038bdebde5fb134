use Rattle.house.proofs.theorems.done_is_drained.Goals as goal
use Rattle.house.proofs.Answered.{done_is_drained}

pub returns : goal.returns
returns c = done_is_drained
