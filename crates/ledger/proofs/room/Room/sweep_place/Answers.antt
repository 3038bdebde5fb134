use Rattle.ledger.proofs.Becoming.{becomes_as}
use Rattle.std.proofs.Common.{sym, ap, ◌∙◌}
use Rattle.ledger.specs.declared.Loan.{Loan}
use Rattle.ledger.specs.View.{view_of}
use Rattle.ledger.specs.Uses.{swept_loan}
use Rattle.ledger.specs.Changes.{with_loan}
use Rattle.ledger.proofs.Swept.{swept_may, swept_alone, same_page, place_swept}
use Rattle.ledger.proofs.room.Room.sweep_place.Goals as goal

pub set_loan-requires : goal.set_loan-requires
set_loan-requires c =
    let may = swept_may c.args.self.now.frames c.args.self.now.words.now c.args.self.now.consistent c.args.at.who c.args.at.v c.in-Page.f c.in-PageOf.who c.in-PageOf.place c.in-PageOf.loan c.args.home c.args.d (sym c.in-Page.ensures) (sym c.in-PageOf.ensures) c.swept-after.result c.swept-after.ensures in
    record { place = sym c.in-Page.ensures; fits = may.0; may = may.1; alone = swept_alone c.args.self.now.frames c.args.self.now.words.now c.args.self.now.consistent c.args.at.who c.args.at.v c.in-Page.f c.in-PageOf.who c.in-PageOf.place c.in-PageOf.loan c.args.home c.args.d (sym c.in-Page.ensures) (sym c.in-PageOf.ensures) c.swept-after.result c.swept-after.ensures }

pub returns : goal.returns
returns c =
    becomes_as c.args.self.now c.set_loan.new.self _ _ (ap (λ (l : Loan). with_loan c.args.at.who c.args.at.v c.in-Page.f l (view_of c.args.self.now.frames c.args.self.now.words.now)) c.swept-after.ensures ∙ place_swept c.args.self.now.frames c.args.self.now.words.now c.args.self.now.consistent c.args.at.who c.args.at.v (swept_loan c.args.home c.args.d) c.in-Page.f c.in-PageOf.loan (sym c.in-Page.ensures) (same_page c.args.self.now.frames c.args.self.now.words.now c.args.self.now.consistent c.args.at.who c.args.at.v c.in-Page.f c.in-PageOf.who c.in-PageOf.place c.in-PageOf.loan c.args.home c.args.d (sym c.in-Page.ensures) (sym c.in-PageOf.ensures))) c.set_loan.ensures
