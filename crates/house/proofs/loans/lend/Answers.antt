use Rattle.std.proofs.Common.{refl}
use Rattle.house.proofs.Refused.{refusal_told}
use Rattle.house.proofs.LendCalls.{lend_refused}
use Rattle.house.proofs.loans.lend.Goals as goal

pub returns-in_err-frame-clause-told : goal.returns-in_err-frame-clause-told
returns-in_err-frame-clause-told g c = rw (refusal_told _ c.from_residual.result c.from_residual.ensures.1) (record { lender = refl; keeps = lend_refused _ c.requires.begins.frames c.devices-devices.ensures c.requires.begins.begins c.in_err-frame.ensures })
