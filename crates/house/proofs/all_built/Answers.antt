use Rattle.house.proofs.Built.{all_built}
use Rattle.house.proofs.all_built.Goals as goal

pub returns : goal.returns
returns c k = all_built k
