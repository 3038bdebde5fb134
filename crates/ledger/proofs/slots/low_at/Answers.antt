use Rattle.std.proofs.Common.{ap}
use Rattle.ledger.specs.Words.{noted}
use Rattle.std.proofs.Common.{◌∙◌}
use Rattle.ledger.proofs.Entries.{read_low_at}
use Rattle.ledger.proofs.slots.low_at.Goals as goal

pub returns : goal.returns
returns c = c.read.ensures ∙ ap noted (read_low_at c.args.words.now c.slot_word.result c.args.at.device c.args.at.index c.slot_word.ensures c.args.at.known c.args.at.within)
