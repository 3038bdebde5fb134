use Rattle.ledger.proofs.Loaned.{opened_within, lent_alone}
use Rattle.ledger.proofs.room.Room.lend_page.Goals as goal

pub set_loan-requires : goal.set_loan-requires
set_loan-requires c =
    record {
      place = c.requires.place;
      fits = (opened_within c.args.self.now.words.now c.args.at.who c.args.to.device c.requires.open, c.requires.page);
      may = (c.requires.open, c.requires.page, c.requires.table);
      alone = lent_alone c.args.self.now.frames c.args.self.now.words.now c.args.f c.args.to c.requires.free;
    }
