use Rattle.house.proofs.Asking.{put_asked}
use Rattle.house.proofs.operations.write.Goals as goal

pub returns-clause-asked : goal.returns-clause-asked
returns-clause-asked g c = put_asked c.requires.soon c.put.ensures
