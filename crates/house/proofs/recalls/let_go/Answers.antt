use Rattle.std.proofs.Common.{◌≡◌, true, sym, subst}
use Rattle.ledger.specs.declared.Use.{Use}
use Rattle.ledger.specs.Uses.{loan_in, is_at}
use Rattle.house.proofs.Mappings.{away_ok, away_alone, frame_seen}
use Rattle.house.proofs.recalls.let_go.Goals as goal

pub set_loan-requires : goal.set_loan-requires
set_loan-requires c =
    let a = c.requires in
    let k = c.args.room.now.consistent.coherent in
    record {
      place = a.shown;
      fits = (a.device, a.page);
      may = away_ok c.args.at.who c.args.at.v c.args.m.frame c.args.m.to k a.shown a.loan;
      alone = λ g d p l x y.
          away_alone c.args.m.frame c.args.m.to k a.loan g d p x
          (subst (λ (z : Use). is_at d p (loan_in z) ≡ true) (sym (frame_seen c.args.room.now.frames c.args.room.now.words.now g l)) y);
    }
