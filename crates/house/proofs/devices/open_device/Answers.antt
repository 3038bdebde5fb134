use Rattle.ledger.specs.View.{view_of}
use Rattle.house.specs.Refusals.{OpenRefused}
use Rattle.ledger.proofs.Becoming.{still}
use Rattle.std.proofs.Common.{refl, ℕ, ◌<◌, subst}
use Rattle.house.proofs.Refused.{refusal_told}
use Rattle.house.proofs.Opening.{open_refused, open_told}
use Rattle.house.proofs.devices.open_device.Goals as goal

pub returns-in_err-taken-clause-told : goal.returns-in_err-taken-clause-told
returns-in_err-taken-clause-told g c =
    let h = g.M.Machine.hw c.args.w.now in
    let e = subst (λ (n : ℕ). OpenRefused (view_of n c.args.room.now.words.now) n h.devices h.group h.driver c.args.who c.args.d c.in_err-taken.field-0.0) c.requires.begins.frames c.in_err-taken.ensures in
    rw (refusal_told _ c.from_residual.result c.from_residual.ensures.1) (record { lender = refl; keeps = open_refused _ c.requires.begins.begins e })

pub returns-clause-told : goal.returns-clause-told
returns-clause-told g c =
    let p = c.in_ok-taken.ensures in
    let o = c.into_upper_table-f.ensures.room in
    record {
      lender = o.1;
      keeps = open_told c.requires.begins.frames c.requires.begins.begins p.0 p.1 p.2 p.3 (subst (λ (n : ℕ). c.in_ok-taken.taken.frame < n) c.requires.begins.frames p.4) p.5 c.clear.ensures (still c.args.room.now c.into_upper_table-f.new.room _ o) o.2 c.into_upper_table-f.ensures.frame c.put.ensures;
    }
