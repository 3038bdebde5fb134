use Rattle.std.proofs.Common.{refl, ap, ◌∙◌, arith}
use Rattle.ledger.specs.declared.Use.{Use}
use Rattle.ledger.specs.View.{view_of, with_use}
use Rattle.ledger.proofs.Operations.{loan_made, page_frame}
use Rattle.ledger.proofs.room.Room.set_loan.Goals as goal

pub returns : goal.returns
returns c = (refl, refl, (loan_made c.args.self.now.frames c.args.self.now.words.now c.set_use.new.words c.set_tag.new.words c.args.self.now.consistent (omega arith) c.args.at.who c.args.at.v c.args.f c.args.loan c.requires.place c.requires.may c.requires.alone (c.set_use.ensures.view c.args.self.now.frames (page_frame c.args.self.now.frames c.args.self.now.words.now c.args.self.now.consistent c.args.at.who c.args.at.v c.args.f c.requires.place) ∙ ap (λ (u : Use). with_use c.args.f u (view_of c.args.self.now.frames c.args.self.now.words.now)) c.page_of.ensures) (c.set_tag.ensures.view c.args.self.now.frames) c.set_use.ensures.tags c.set_tag.ensures.tags).0, omega arith)

pub invariant_of-self : goal.invariant_of-self
invariant_of-self c = record { consistent = (loan_made c.args.self.now.frames c.args.self.now.words.now c.set_use.new.words c.set_tag.new.words c.args.self.now.consistent (omega arith) c.args.at.who c.args.at.v c.args.f c.args.loan c.requires.place c.requires.may c.requires.alone (c.set_use.ensures.view c.args.self.now.frames (page_frame c.args.self.now.frames c.args.self.now.words.now c.args.self.now.consistent c.args.at.who c.args.at.v c.args.f c.requires.place) ∙ ap (λ (u : Use). with_use c.args.f u (view_of c.args.self.now.frames c.args.self.now.words.now)) c.page_of.ensures) (c.set_tag.ensures.view c.args.self.now.frames) c.set_use.ensures.tags c.set_tag.ensures.tags).1 }
