use Rattle.ledger.specs.Words.{note_of}
use Rattle.std.proofs.Common.{arith}
use Rattle.ledger.proofs.Entries.{wrote_low_at, kept_tags_at}
use Rattle.ledger.proofs.slots.set_low.Goals as goal

pub returns : goal.returns
returns c =
    record {
      view = λ n. wrote_low_at c.args.words.now c.slot_word.result n c.word.result c.requires.long c.args.at.device c.args.at.index (note_of c.args.table) c.slot_word.ensures c.args.at.known c.args.at.within (rw c.word.ensures (omega (arith, c.requires.fits)));
      tags = kept_tags_at c.args.words.now c.slot_word.result c.word.result (omega (arith, c.slot_word.ensures));
    }
