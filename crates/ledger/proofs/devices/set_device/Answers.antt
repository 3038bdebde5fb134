use Rattle.std.proofs.Common.{ap, ◌∙◌, arith}
use Rattle.ledger.specs.Words.{device_from}
use Rattle.ledger.proofs.Entries.{device_packed, wrote_device_at, kept_tags_at}
use Rattle.ledger.proofs.devices.set_device.Goals as goal

pub returns : goal.returns
returns c =
    record {
      view = λ n. wrote_device_at c.args.words.now c.device_word.result n c.from.result c.requires.long c.args.d c.args.state c.device_word.ensures c.requires.device (ap device_from c.from.ensures ∙ device_packed c.args.state c.requires.fits);
      tags = kept_tags_at c.args.words.now c.device_word.result c.from.result (omega (arith, c.device_word.ensures));
    }
