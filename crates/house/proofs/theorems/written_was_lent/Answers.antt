use Rattle.house.proofs.theorems.written_was_lent.Goals as goal
use Rattle.house.proofs.Sights.{written_was_lent}

pub returns : goal.returns
returns c = written_was_lent
