use Rattle.house.proofs.lent_by_driver.Goals as goal
use Rattle.house.proofs.Promises.{lent_by_driver}

pub returns : goal.returns
returns c = lent_by_driver
