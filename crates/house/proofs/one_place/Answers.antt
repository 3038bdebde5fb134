use Rattle.house.proofs.one_place.Goals as goal
use Rattle.house.proofs.Promises.{one_place}

pub returns : goal.returns
returns c = one_place
