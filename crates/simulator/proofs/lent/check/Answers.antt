use Rattle.std.proofs.Common.{sym, arith}
use Rattle.simulator.proofs.Fits.{some_unfit}
use Rattle.simulator.proofs.lent.check.Goals as goal

pub returns-then-not-in_range : goal.returns-then-not-in_range
returns-then-not-in_range c = ((omega arith, omega arith, omega arith), omega arith, omega arith, some_unfit c.args.devices.now (sym c.if-not-in_range.ensures))
