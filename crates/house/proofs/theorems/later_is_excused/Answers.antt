use Rattle.house.proofs.theorems.later_is_excused.Goals as goal
use Rattle.house.proofs.Answered.{later_is_excused}

pub returns : goal.returns
returns c = later_is_excused
