use Rattle.house.proofs.home_is_quiet.Goals as goal
use Rattle.house.proofs.Promises.{home_is_quiet, new_is_noughts}

pub returns : goal.returns
returns c = (home_is_quiet, new_is_noughts)
