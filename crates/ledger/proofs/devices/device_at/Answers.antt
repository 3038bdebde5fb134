use Rattle.std.proofs.Common.{◌∙◌}
use Rattle.ledger.proofs.Entries.{read_device_at}
use Rattle.ledger.proofs.devices.device_at.Goals as goal

pub returns : goal.returns
returns c = c.from.ensures ∙ read_device_at c.args.words.now c.device_word.result c.args.d c.device_word.ensures c.requires.device
