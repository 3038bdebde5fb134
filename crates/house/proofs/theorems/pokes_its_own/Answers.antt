use Rattle.house.proofs.theorems.pokes_its_own.Goals as goal
use Rattle.house.proofs.Sights.{pokes_its_own}

pub returns : goal.returns
returns c = pokes_its_own
