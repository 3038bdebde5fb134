use Rattle.ledger.proofs.Operations.{page_frame}
use Rattle.ledger.proofs.Becoming.{becomes_as}
use Rattle.std.proofs.Common.{ap, ◌∙◌}
use Rattle.ledger.specs.declared.Loan.{Loan}
use Rattle.ledger.specs.declared.Use.{Use}
use Rattle.ledger.specs.Uses.{loan_in, recalled_loan}
use Rattle.ledger.specs.View.{view_of}
use Rattle.ledger.specs.Changes.{with_loan}
use Rattle.ledger.proofs.Loaned.{recalled_may, recalled_alone}
use Rattle.ledger.proofs.room.Room.recall_page.Goals as goal

pub used-requires : goal.used-requires
used-requires c = page_frame c.args.self.now.frames c.args.self.now.words.now c.args.self.now.consistent c.args.at.who c.args.at.v c.args.f c.requires

pub set_loan-requires : goal.set_loan-requires
set_loan-requires c =
    let is = c.recalled-after.ensures ∙ ap (λ (u : Use). recalled_loan c.args.home (loan_in u)) c.used.ensures in
    let may = recalled_may c.args.self.now.frames c.args.self.now.words.now c.args.self.now.consistent c.args.at.who c.args.at.v c.args.f c.args.home c.requires c.recalled-after.result is in
    record { place = c.requires; fits = may.0; may = may.1; alone = recalled_alone c.args.self.now.frames c.args.self.now.words.now c.args.self.now.consistent c.args.at.who c.args.at.v c.args.f c.args.home c.requires c.recalled-after.result is }

pub returns : goal.returns
returns c =
    becomes_as c.args.self.now c.set_loan.new.self _ _ (ap (λ (l : Loan). with_loan c.args.at.who c.args.at.v c.args.f l (view_of c.args.self.now.frames c.args.self.now.words.now)) (c.recalled-after.ensures ∙ ap (λ (u : Use). recalled_loan c.args.home (loan_in u)) c.used.ensures)) c.set_loan.ensures
