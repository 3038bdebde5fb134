use Rattle.ledger.proofs.Entries.{read_use_at}
use Rattle.ledger.proofs.frames.words_at.Goals as goal

pub returns : goal.returns
returns c = read_use_at c.args.words.now c.frame_word-at.result c.args.f c.frame_word-at.ensures
