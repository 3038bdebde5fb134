use Rattle.house.proofs.Asking.{drain_asked}
use Rattle.house.proofs.drains.Forgotten.ask.Goals as goal

pub returns-then-drain-clause-asked : goal.returns-then-drain-clause-asked
returns-then-drain-clause-asked g c = drain_asked c.requires.soon c.drain.ensures

pub returns-else-drain-clause-asked : goal.returns-else-drain-clause-asked
returns-else-drain-clause-asked g c = drain_asked c.requires.soon c.drain.ensures
