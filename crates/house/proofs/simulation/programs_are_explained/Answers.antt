use Rattle.house.proofs.Programs.{runs_keep, comes_keep}
use Rattle.house.proofs.simulation.programs_are_explained.Goals as goal

pub returns : goal.returns
returns c = (
  λ can start t s h es j gs sound words shape shown run runs. runs_keep sound words shape shown run runs,
  λ can start t s h es who k j gs sound words shape shown run comes. comes_keep sound words shape shown run comes,
)
