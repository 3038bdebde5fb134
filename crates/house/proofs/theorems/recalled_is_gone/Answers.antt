use Rattle.house.proofs.theorems.recalled_is_gone.Goals as goal
use Rattle.house.proofs.GivenBack.{recalled_is_gone}

pub returns : goal.returns
returns c = recalled_is_gone
