use Rattle.ledger.proofs.Entries.{wrote_use_at, wrote_use_tags_at}
use Rattle.ledger.proofs.frames.set_use.Goals as goal

pub returns : goal.returns
returns c =
    record {
      view = λ n l. wrote_use_at c.args.words.now c.frame_word-at.result c.args.f c.pack-record.result.low c.pack-record.result.high n c.args.used c.frame_word-at.ensures c.requires.long l c.pack-record.ensures.inverse;
      tags = wrote_use_tags_at c.args.words.now c.frame_word-at.result c.args.f c.pack-record.result.low c.pack-record.result.high c.frame_word-at.ensures c.requires.long;
    }
