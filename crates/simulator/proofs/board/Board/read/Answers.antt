use Rattle.std.proofs.Common.{rules, false}
use Rattle.script.specs.declared.forms.Line.TheVariants as line
use Rattle.simulator.specs.View.{parts_of}
use Rattle.simulator.proofs.Lines.{refused_at}
use Rattle.simulator.proofs.DeviceLines.{read_missed, read_took, refused_then}
use Rattle.simulator.proofs.board.Board.read.Goals as goal

pub returns-in_err-way : goal.returns-in_err-way
returns-in_err-way c = let z = refused_at (parts_of c.args.self.now) (parts_of c.reach.new.self) (line.Read c.args.d c.args.p c.args.word) c.from_residual.result c.from_residual.ensures.0 c.in_err-way.ensures.0 in record { ran = z.0; heard = z.1; beyond = search rules }

pub returns-in_default : goal.returns-in_default
returns-in_default c = let z = read_missed (parts_of c.args.self.now) (parts_of c.reach.new.self) c.args.d c.args.p c.args.word (rw c.in_default.is at c.in_ok-way.ensures) in record { ran = z.0; heard = z.1; beyond = search rules }

pub returns-in_err-x : goal.returns-in_err-x
returns-in_err-x c =
    let z = refused_then (parts_of c.args.self.now) (parts_of c.reach.new.self) (parts_of c.take_at.new.self) c.args.d c.args.p c.args.word false c.in-Some.way (rw c.in-Some.is at c.in_ok-way.ensures) (line.Read c.args.d c.args.p c.args.word) c.from_residual-in_err-x.result c.from_residual-in_err-x.ensures.0 c.in_err-x.ensures.0 in record { ran = z.0; heard = z.1; beyond = search rules }

pub returns : goal.returns
returns c = let z = read_took (parts_of c.args.self.now) (parts_of c.reach.new.self) (parts_of c.take_at.new.self) c.args.d c.args.p c.args.word false c.in-Some.way (rw c.in-Some.is at c.in_ok-way.ensures) c.in_ok-x.x c.in_ok-x.ensures in record { ran = z.0; heard = z.1; beyond = search rules }
