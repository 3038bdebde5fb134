use Rattle.std.proofs.Common.{◌+◌, arith}
use Rattle.ledger.proofs.Entries.{wrote_top_at, kept_tags_at}
use Rattle.ledger.proofs.devices.set_top.Goals as goal

pub returns : goal.returns
returns c =
    record {
      view = λ n. wrote_top_at c.args.words.now c.device_word.result n c.args.f c.requires.long c.args.d c.args.f c.device_word.ensures c.requires.device (omega (arith, c.requires.frame));
      tags = kept_tags_at c.args.words.now (c.device_word.result + 1) c.args.f (omega (arith, c.device_word.ensures));
    }
