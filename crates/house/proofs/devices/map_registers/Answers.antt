use Rattle.ledger.proofs.Becoming.{still}
use Rattle.std.proofs.Common.{refl}
use Rattle.house.proofs.Refused.{refusal_told}
use Rattle.house.proofs.Showing.{regs_refused, regs_told}
use Rattle.house.proofs.devices.map_registers.Goals as goal

pub returns-in_err-plan_registers-clause-told : goal.returns-in_err-plan_registers-clause-told
returns-in_err-plan_registers-clause-told g c = rw (refusal_told _ c.from_residual.result c.from_residual.ensures.1) (record { lender = refl; keeps = regs_refused _ c.devices.ensures c.requires.begins.begins c.in_err-plan_registers.ensures })

pub returns-clause-told : goal.returns-clause-told
returns-clause-told g c =
    let p = c.in_ok-plan_registers.ensures in
    let o = c.show_registers-2.ensures in
    record { lender = o.1; keeps = regs_told c.requires.begins.frames c.devices.ensures c.requires.begins.begins p.0 p.1 p.2 p.3 (still c.args.room.now c.show_registers-2.new.self _ o) o.2 c.show_registers.ensures }
