use Rattle.house.proofs.theorems.refused_is_untouched.Goals as goal
use Rattle.house.proofs.Answered.{refused_is_untouched}

pub returns : goal.returns
returns c = refused_is_untouched
