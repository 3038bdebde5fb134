use Rattle.std.proofs.Common.{rules, refl}
use Rattle.script.specs.declared.forms.Line.TheVariants as line
use Rattle.simulator.specs.View.{parts_of}
use Rattle.simulator.proofs.Lines.{refused_at}
use Rattle.simulator.proofs.DeviceLines.{kept_found, kept_missed}
use Rattle.simulator.proofs.board.Board.write_kept.Goals as goal

pub returns-in_err-has_page : goal.returns-in_err-has_page
returns-in_err-has_page c =
    let z = refused_at (parts_of c.args.self.now) (parts_of c.args.self.now) (line.Kept c.args.d c.args.p c.args.word c.args.x) c.from_residual.result c.from_residual.ensures.0 (refl, refl) in record { ran = z.0; heard = z.1; beyond = search rules }

pub returns-in_err-below : goal.returns-in_err-below
returns-in_err-below c =
    let z = refused_at (parts_of c.args.self.now) (parts_of c.args.self.now) (line.Kept c.args.d c.args.p c.args.word c.args.x) c.from_residual-in_err-below.result c.from_residual-in_err-below.ensures.0 (refl, refl) in record { ran = z.0; heard = z.1; beyond = search rules }

pub returns-in_default : goal.returns-in_default
returns-in_default c = let z = kept_missed (parts_of c.args.self.now) (parts_of c.args.self.now) c.args.d c.args.p c.args.word c.args.x (refl, refl) in record { ran = z.0; heard = z.1; beyond = search rules }

pub returns-in-Ok : goal.returns-in-Ok
returns-in-Ok c =
    let z = kept_found (parts_of c.args.self.now) (parts_of c.put_at.new.self) c.args.d c.args.p c.in-Some.kept c.args.word c.args.x c.in-Some.ensures c.in_ok-below.ensures c.ranges.x.fits c.in-Ok.ensures in record { ran = z.0; heard = z.1; beyond = search rules }

pub returns-in-Err : goal.returns-in-Err
returns-in-Err c = let z = kept_missed (parts_of c.args.self.now) (parts_of c.put_at.new.self) c.args.d c.args.p c.args.word c.args.x c.in-Err.ensures.0 in record { ran = z.0; heard = z.1; beyond = search rules }
