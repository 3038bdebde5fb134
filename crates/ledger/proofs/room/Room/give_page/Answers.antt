use Rattle.ledger.proofs.Becoming.{becomes_then}
use Rattle.ledger.specs.View.{view_of}
use Rattle.ledger.specs.Changes.{new_page}
use Rattle.ledger.proofs.Operations.{given_is, given_ready}
use Rattle.ledger.proofs.room.Room.give_page.Goals as goal

pub new_page-requires : goal.new_page-requires
new_page-requires c =
    let p = given_ready c.args.self.now.frames c.args.self.now.words.now c.free_page.new.self.words.now c.args.self.now.consistent c.args.from.who c.args.from.v c.args.to.who c.args.to.v c.args.f c.requires.from c.requires.to c.free_page.ensures.2 in
    record { place = p.0; within = rw c.free_page.ensures.0 p.1; frame = p.2 }

pub returns : goal.returns
returns c = becomes_then c.args.self.now c.free_page.new.self c.new_page.new.self _ _ (new_page c.args.to.who c.args.to.v c.args.f) c.free_page.ensures c.new_page.ensures (given_is c.args.from.who c.args.from.v c.args.to.who c.args.to.v c.args.f (view_of c.args.self.now.frames c.args.self.now.words.now))
