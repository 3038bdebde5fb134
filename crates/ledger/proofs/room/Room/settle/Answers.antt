use Rattle.std.proofs.Common.{refl}
use Rattle.std.proofs.Common.{arith}
use Rattle.ledger.proofs.Operations.{settle_fits, settle_made}
use Rattle.ledger.proofs.room.Room.settle.Goals as goal

pub set_use-requires : goal.set_use-requires
set_use-requires c = record { long = omega arith; fits = (settle_fits c.args.self.now.frames c.args.self.now.words.now c.args.self.now.words.now c.args.self.now.words.now c.args.self.now.consistent (omega arith) c.args.at.who c.args.at.v c.args.f c.args.at.program c.args.at.place c.args.used c.args.shown (omega arith) c.requires.settles).0 }

pub set_place-requires : goal.set_place-requires
set_place-requires c = record { long = omega arith; fits = (settle_fits c.args.self.now.frames c.args.self.now.words.now c.args.self.now.words.now c.args.self.now.words.now c.args.self.now.consistent (omega arith) c.args.at.who c.args.at.v c.args.f c.args.at.program c.args.at.place c.args.used c.args.shown (omega arith) c.requires.settles).1 }

pub returns : goal.returns
returns c = (refl, refl, (settle_made c.args.self.now.frames c.args.self.now.words.now c.set_use.new.words c.set_place.new.words c.args.self.now.consistent (omega arith) c.args.at.who c.args.at.v c.args.f c.args.used c.args.shown c.requires.within c.requires.settles (c.set_use.ensures.view c.args.self.now.frames c.requires.within) (c.set_place.ensures.view c.args.self.now.frames) c.set_use.ensures.tags c.set_place.ensures.tags).0, omega arith)

pub invariant_of-self : goal.invariant_of-self
invariant_of-self c = record { consistent = (settle_made c.args.self.now.frames c.args.self.now.words.now c.set_use.new.words c.set_place.new.words c.args.self.now.consistent (omega arith) c.args.at.who c.args.at.v c.args.f c.args.used c.args.shown c.requires.within c.requires.settles (c.set_use.ensures.view c.args.self.now.frames c.requires.within) (c.set_place.ensures.view c.args.self.now.frames) c.set_use.ensures.tags c.set_place.ensures.tags).1 }
