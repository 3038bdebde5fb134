use Rattle.house.proofs.Steps.{steps_keep}
use Rattle.house.proofs.simulation.steps_are_explained.Goals as goal

pub returns : goal.returns
returns c can start t s n h es j gs sound words shape run steps = steps_keep sound words shape run steps
