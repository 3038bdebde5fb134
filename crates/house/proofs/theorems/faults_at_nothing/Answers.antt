use Rattle.house.proofs.theorems.faults_at_nothing.Goals as goal
use Rattle.house.proofs.Sights.{faults_at_nothing}

pub returns : goal.returns
returns c = faults_at_nothing
