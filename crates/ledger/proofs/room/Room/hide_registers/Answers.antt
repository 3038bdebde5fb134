use Rattle.std.proofs.Common.{sym, ap, ◌∙◌, arith, refl}
use Rattle.ledger.specs.Uses.{shows_registers}
use Rattle.ledger.proofs.Operations.{unregistered_made}
use Rattle.ledger.proofs.room.Room.hide_registers.Goals as goal

pub returns-then-shows : goal.returns-then-shows
returns-then-shows c = record { answer = c.shows_registers-shows.ensures ∙ ap (shows_registers c.args.d) c.place.ensures; room = (refl, refl, (unregistered_made c.args.self.now.frames c.args.self.now.words.now c.set_place.new.words c.args.self.now.consistent (omega arith) c.args.at.who c.args.at.v c.args.d (sym (c.shows_registers-shows.ensures ∙ ap (shows_registers c.args.d) c.place.ensures) ∙ c.if-shows.true) (c.set_place.ensures.view c.args.self.now.frames) c.set_place.ensures.tags).0, omega arith) }

pub invariant_of-self : goal.invariant_of-self
invariant_of-self c = record { consistent = (unregistered_made c.args.self.now.frames c.args.self.now.words.now c.set_place.new.words c.args.self.now.consistent (omega arith) c.args.at.who c.args.at.v c.args.d (sym (c.shows_registers-shows.ensures ∙ ap (shows_registers c.args.d) c.place.ensures) ∙ c.if-shows.true) (c.set_place.ensures.view c.args.self.now.frames) c.set_place.ensures.tags).1 }
