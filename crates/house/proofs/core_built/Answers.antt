use Rattle.house.proofs.Built.{all_built}
use Rattle.house.proofs.core_built.Goals as goal

pub returns : goal.returns
returns c k t = all_built k
