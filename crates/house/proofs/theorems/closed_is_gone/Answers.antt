use Rattle.house.proofs.theorems.closed_is_gone.Goals as goal
use Rattle.house.proofs.GivenBack.{closed_is_gone}

pub returns : goal.returns
returns c = closed_is_gone
