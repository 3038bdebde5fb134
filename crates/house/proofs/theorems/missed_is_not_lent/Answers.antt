use Rattle.house.proofs.theorems.missed_is_not_lent.Goals as goal
use Rattle.house.proofs.Sights.{missed_is_not_lent}

pub returns : goal.returns
returns c = missed_is_not_lent
