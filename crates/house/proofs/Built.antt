-- Which calls are built: the one place where proofs look into `can`.
use Rattle.std.proofs.Common.{T}
use Rattle.house.specs.declared.Call.{Call}
use Rattle.house.specs.declared.Call.TheVariants.{Get, Free, Give, Open, Close, Regs, Lend, Recall, End}
use Rattle.house.specs.Meaning.{all}
use Rattle.house.specs.Promise.{can}

pub all_built : (k : Call) → T (can k)
unfolding all
all_built (Get v) = tt
all_built (Free v) = tt
all_built (Give v to at) = tt
all_built (Open d) = tt
all_built (Close d) = tt
all_built (Regs d v) = tt
all_built (Lend v d p w) = tt
all_built (Recall v) = tt
all_built (End w) = tt
