use Rattle.std.proofs.Common.{arith}
use Rattle.ledger.proofs.Cleared.{cleared_word}
use Rattle.ledger.proofs.setup.clear_tables.Goals as goal

pub loop-i-preserved : goal.loop-i-preserved
loop-i-preserved c = cleared_word c.args.words.now c.loop-i.words c.loop-i.i (omega arith) c.loop-i.invariant
