use Rattle.std.proofs.Common.{refl, rules, arith}
use Rattle.script.specs.declared.forms.Line.TheVariants as line
use Rattle.simulator.specs.View.{parts_of}
use Rattle.simulator.proofs.Lines.{asked_comes, unasked}
use Rattle.simulator.proofs.Owed.{room_asked}
use Rattle.simulator.proofs.board.Board.ask.Goals as goal

pub returns-in_err-below : goal.returns-in_err-below
returns-in_err-below c = record { replied = unasked (parts_of c.args.self.now) (line.Call c.args.who c.args.request) c.from_residual.result c.from_residual.ensures.0; beyond = search rules }

pub invariant_of-self-clause-room : goal.invariant_of-self-clause-room
invariant_of-self-clause-room c = room_asked (parts_of c.args.self.now).notes _ c.args.who c.call_of-call.result c.args.self.now.log.rows.count _ _ c.push.ensures.list c.push.ensures.count (omega arith)

pub returns : goal.returns
returns c = record { replied = (asked_comes (parts_of c.args.self.now) _ c.args.who c.call_of-call.result c.in_ok-below.ensures c.push.ensures.list, (c.args.request, refl, c.call_of-call.ensures)); beyond = search rules }
