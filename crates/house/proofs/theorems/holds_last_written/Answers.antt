use Rattle.house.proofs.theorems.holds_last_written.Goals as goal
use Rattle.house.proofs.Words.{holds_last_written}

pub returns : goal.returns
returns c = holds_last_written
