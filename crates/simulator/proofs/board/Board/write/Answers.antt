use Rattle.std.proofs.Common.{rules, true}
use Rattle.script.specs.declared.forms.Line.TheVariants as line
use Rattle.simulator.specs.View.{parts_of}
use Rattle.simulator.proofs.Lines.{refused_at}
use Rattle.simulator.proofs.DeviceLines.{write_missed, write_put, refused_then}
use Rattle.simulator.proofs.board.Board.write.Goals as goal

pub returns-in_err-way : goal.returns-in_err-way
returns-in_err-way c = let z = refused_at (parts_of c.args.self.now) (parts_of c.reach.new.self) (line.Write c.args.d c.args.p c.args.word c.args.x) c.from_residual.result c.from_residual.ensures.0 c.in_err-way.ensures.0 in record { ran = z.0; heard = z.1; beyond = search rules }

pub returns-in_default : goal.returns-in_default
returns-in_default c = let z = write_missed (parts_of c.args.self.now) (parts_of c.reach.new.self) c.args.d c.args.p c.args.word c.args.x (rw c.in_default.is at c.in_ok-way.ensures) in record { ran = z.0; heard = z.1; beyond = search rules }

pub returns-in_err-put_at : goal.returns-in_err-put_at
returns-in_err-put_at c =
    let z = refused_then (parts_of c.args.self.now) (parts_of c.reach.new.self) (parts_of c.put_at.new.self) c.args.d c.args.p c.args.word true c.in-Some.way (rw c.in-Some.is at c.in_ok-way.ensures) (line.Write c.args.d c.args.p c.args.word c.args.x) c.from_residual-in_err-put_at.result c.from_residual-in_err-put_at.ensures.0 c.in_err-put_at.ensures.0 in record { ran = z.0; heard = z.1; beyond = search rules }

pub returns : goal.returns
returns c = let z = write_put (parts_of c.args.self.now) (parts_of c.reach.new.self) (parts_of c.put_at.new.self) c.args.d c.args.p c.args.word true c.in-Some.way (rw c.in-Some.is at c.in_ok-way.ensures) c.args.x c.ranges.x.fits c.in_ok-put_at.ensures in record { ran = z.0; heard = z.1; beyond = search rules }
