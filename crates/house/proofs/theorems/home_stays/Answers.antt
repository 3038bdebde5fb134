use Rattle.house.proofs.theorems.home_stays.Goals as goal
use Rattle.house.proofs.AtHome.{home_stays}

pub returns : goal.returns
returns c = home_stays
