use Rattle.ledger.proofs.Entries.{place_shown, place_untagged, wrote_place_at, wrote_tag_at}
use Rattle.ledger.proofs.places.set_place.Goals as goal

pub returns : goal.returns
returns c =
    record {
      view = λ n. wrote_place_at c.args.words.now c.place_word.result n c.from.result c.requires.long c.args.at.who c.args.at.v c.args.shown c.place_word.ensures c.args.at.program c.args.at.place (place_shown c.args.shown c.from.result c.requires.fits c.from.ensures);
      tags = wrote_tag_at c.args.words.now c.place_word.result 0 c.from.result c.requires.long c.args.at.who c.args.at.v 0 c.place_word.ensures c.args.at.program c.args.at.place (place_untagged c.args.shown c.from.result c.requires.fits c.from.ensures);
    }
