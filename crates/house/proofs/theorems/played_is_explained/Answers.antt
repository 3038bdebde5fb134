use Rattle.house.proofs.theorems.played_is_explained.Goals as goal
use Rattle.house.proofs.Played.{played_is_explained}

pub returns : goal.returns
returns c = played_is_explained
