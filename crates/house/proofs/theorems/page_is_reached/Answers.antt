use Rattle.house.proofs.theorems.page_is_reached.Goals as goal
use Rattle.house.proofs.Sights.{page_is_reached}

pub returns : goal.returns
returns c = page_is_reached
