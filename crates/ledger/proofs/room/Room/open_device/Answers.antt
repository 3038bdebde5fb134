use Rattle.std.proofs.Common.{ap, ◌∙◌, arith, refl}
use Rattle.ledger.specs.declared.Use.{Use}
use Rattle.ledger.specs.View.{view_of, with_use}
use Rattle.ledger.proofs.Operations.{opened_made}
use Rattle.ledger.proofs.room.Room.open_device.Goals as goal

pub returns : goal.returns
returns c = (refl, refl, (opened_made c.args.self.now.frames c.args.self.now.words.now c.set_device.new.words c.args.self.now.consistent (omega arith) c.set_use.new.words c.set_top.new.words c.args.who c.args.d c.args.f c.requires.within c.requires.frame c.requires.shut (c.set_use.ensures.view c.args.self.now.frames c.requires.within ∙ ap (λ (u : Use). with_use c.args.f u (view_of c.args.self.now.frames c.args.self.now.words.now)) c.table_of.ensures) (c.set_top.ensures.view c.args.self.now.frames) (c.set_device.ensures.view c.args.self.now.frames) (c.set_device.ensures.tags ∙ c.set_top.ensures.tags ∙ c.set_use.ensures.tags)).0, omega arith)

pub invariant_of-self : goal.invariant_of-self
invariant_of-self c = record { consistent = (opened_made c.args.self.now.frames c.args.self.now.words.now c.set_device.new.words c.args.self.now.consistent (omega arith) c.set_use.new.words c.set_top.new.words c.args.who c.args.d c.args.f c.requires.within c.requires.frame c.requires.shut (c.set_use.ensures.view c.args.self.now.frames c.requires.within ∙ ap (λ (u : Use). with_use c.args.f u (view_of c.args.self.now.frames c.args.self.now.words.now)) c.table_of.ensures) (c.set_top.ensures.view c.args.self.now.frames) (c.set_device.ensures.view c.args.self.now.frames) (c.set_device.ensures.tags ∙ c.set_top.ensures.tags ∙ c.set_use.ensures.tags)).1 }
