use Rattle.ledger.proofs.Entries.{read_tag_at}
use Rattle.ledger.proofs.places.tag_at.Goals as goal

pub returns : goal.returns
returns c = read_tag_at c.args.words.now c.place_word.result c.args.at.who c.args.at.v c.place_word.ensures c.args.at.program c.args.at.place
