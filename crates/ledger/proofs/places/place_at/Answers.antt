use Rattle.std.proofs.Common.{◌∙◌}
use Rattle.ledger.proofs.Entries.{read_place_at}
use Rattle.ledger.proofs.places.place_at.Goals as goal

pub returns : goal.returns
returns c = c.from.ensures ∙ read_place_at c.args.words.now c.place_word.result c.args.at.who c.args.at.v c.place_word.ensures c.args.at.program c.args.at.place
