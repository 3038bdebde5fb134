use Rattle.house.proofs.theorems.home_is_its_owners.Goals as goal
use Rattle.house.proofs.AtHome.{home_is_its_owners}

pub returns : goal.returns
returns c = home_is_its_owners
