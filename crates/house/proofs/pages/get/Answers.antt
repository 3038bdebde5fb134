use Rattle.ledger.proofs.Becoming.{still}
use Rattle.std.proofs.Common.{refl}
use Rattle.house.proofs.Refused.{refusal_told}
use Rattle.house.proofs.Getting.{get_refused, get_told}
use Rattle.house.proofs.pages.get.Goals as goal

pub returns-in_err-taken-clause-told : goal.returns-in_err-taken-clause-told
returns-in_err-taken-clause-told g c = rw (refusal_told _ c.from_residual.result c.from_residual.ensures.1) (record { lender = refl; keeps = get_refused _ c.requires.begins.frames c.requires.begins.begins c.in_err-taken.ensures })

pub returns-clause-told : goal.returns-clause-told
returns-clause-told g c =
    let p = c.in_ok-taken.ensures in
    let o = c.into_page-f.ensures.room in
    record {
      lender = o.1;
      keeps = get_told c.requires.begins.frames c.requires.begins.begins p.0 p.1 p.2 p.3 c.clear.ensures (still c.args.room.now c.into_page-f.new.room _ o) o.2 c.into_page-f.ensures.frame c.show.ensures;
    }
