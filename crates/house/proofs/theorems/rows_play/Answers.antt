use Rattle.house.proofs.theorems.rows_play.Goals as goal
use Rattle.house.proofs.Choices.{rows_play}

pub returns : goal.returns
returns c = rows_play
