use Rattle.std.proofs.Common.{sym, ap, arith, refl}
use Rattle.ledger.specs.Uses.{shows_any}
use Rattle.ledger.proofs.Operations.{vacated_registers}
use Rattle.ledger.proofs.room.Room.vacate.Goals as goal

pub returns-in-Registers : goal.returns-in-Registers
returns-in-Registers c = record { answer = ap shows_any c.in-Registers.ensures; room = (refl, refl, (vacated_registers c.args.self.now.frames c.args.self.now.words.now c.set_place.new.words c.args.self.now.consistent (omega arith) c.args.at.who c.args.at.v c.in-Registers.field-0 (sym c.in-Registers.ensures) (c.set_place.ensures.view c.args.self.now.frames) c.set_place.ensures.tags).0, omega arith) }

pub invariant_of-self : goal.invariant_of-self
invariant_of-self c = record { consistent = (vacated_registers c.args.self.now.frames c.args.self.now.words.now c.set_place.new.words c.args.self.now.consistent (omega arith) c.args.at.who c.args.at.v c.in-Registers.field-0 (sym c.in-Registers.ensures) (c.set_place.ensures.view c.args.self.now.frames) c.set_place.ensures.tags).1 }
