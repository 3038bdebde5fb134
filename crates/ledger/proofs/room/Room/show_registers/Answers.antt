use Rattle.std.proofs.Common.{arith, refl}
use Rattle.ledger.proofs.Operations.{registers_made}
use Rattle.ledger.proofs.room.Room.show_registers.Goals as goal

pub returns : goal.returns
returns c = (refl, refl, (registers_made c.args.self.now.frames c.args.self.now.words.now c.set_place.new.words c.args.self.now.consistent (omega arith) c.args.at.who c.args.at.v c.args.d c.requires.place c.requires.open (c.set_place.ensures.view c.args.self.now.frames) c.set_place.ensures.tags).0, omega arith)

pub invariant_of-self : goal.invariant_of-self
invariant_of-self c = record { consistent = (registers_made c.args.self.now.frames c.args.self.now.words.now c.set_place.new.words c.args.self.now.consistent (omega arith) c.args.at.who c.args.at.v c.args.d c.requires.place c.requires.open (c.set_place.ensures.view c.args.self.now.frames) c.set_place.ensures.tags).1 }
