use Rattle.std.proofs.Common.{refl, arith}
use Rattle.ledger.proofs.Entries.{wrote_shown_at, wrote_tag_at}
use Rattle.ledger.proofs.places.set_tag.Goals as goal

pub returns : goal.returns
returns c =
    record {
      view = λ n. wrote_shown_at c.args.words.now c.place_word-word.result n _ c.requires.long c.args.at.who c.args.at.v c.tag.result c.place_word-word.ensures c.args.at.program c.args.at.place refl;
      tags = wrote_tag_at c.args.words.now c.place_word-word.result 0 _ c.requires.long c.args.at.who c.args.at.v _ c.place_word-word.ensures c.args.at.program c.args.at.place (omega (arith, c.tag.ensures.tag));
    }
