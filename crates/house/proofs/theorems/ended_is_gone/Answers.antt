use Rattle.house.proofs.theorems.ended_is_gone.Goals as goal
use Rattle.house.proofs.GivenBack.{ended_is_gone}

pub returns : goal.returns
returns c = ended_is_gone
