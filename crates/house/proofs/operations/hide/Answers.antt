use Rattle.house.specs.Machine.{Nothing}
use Rattle.house.proofs.Asking.{shows_asked}
use Rattle.house.proofs.operations.hide.Goals as goal

pub returns-clause-asked : goal.returns-clause-asked
returns-clause-asked g c = shows_asked c.args.who c.args.v Nothing c.requires.soon c.hide.ensures
