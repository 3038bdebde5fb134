use Rattle.house.proofs.Steps.{drain_keeps}
use Rattle.house.proofs.simulation.drains_are_explained.Goals as goal

pub returns : goal.returns
returns c can start t s n d h es b j gs sound words shape run drain = drain_keeps sound words shape run drain
