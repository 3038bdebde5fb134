use Rattle.ledger.proofs.Becoming.{still}
use Rattle.std.proofs.Common.{refl}
use Rattle.house.proofs.Refused.{refusal_told}
use Rattle.house.proofs.Giving.{give_refused, give_told}
use Rattle.house.proofs.pages.give.Goals as goal

pub returns-in_err-f-clause-told : goal.returns-in_err-f-clause-told
returns-in_err-f-clause-told g c = rw (refusal_told _ c.from_residual.result c.from_residual.ensures.1) (record { lender = refl; keeps = give_refused _ c.requires.begins.frames c.requires.begins.begins c.in_err-f.ensures })

pub returns-clause-told : goal.returns-clause-told
returns-clause-told g c =
    let p = c.in_ok-f.ensures in
    let o = c.give_page.ensures in
    record { lender = o.1; keeps = give_told c.requires.begins.frames c.requires.begins.begins p.0 p.1 p.2 p.3 p.4 p.5 c.hide.ensures.steps (still c.args.room.now c.give_page.new.self _ o) o.2 c.show.ensures }
