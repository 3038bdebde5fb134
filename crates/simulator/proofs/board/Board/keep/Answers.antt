use Rattle.std.proofs.Common.{rules, refl}
use Rattle.house.specs.Machine.{rest}
use Rattle.script.specs.declared.forms.Line.TheVariants as line
use Rattle.simulator.specs.Heard as heard
use Rattle.simulator.specs.View.{parts_of}
use Rattle.simulator.proofs.Lines.{refused_at, goes_ran, not_kept, heard_at}
use Rattle.simulator.proofs.board.Board.keep.Goals as goal

pub returns-in_err-has_page : goal.returns-in_err-has_page
returns-in_err-has_page c =
    let z = refused_at (parts_of c.args.self.now) (parts_of c.args.self.now) (line.Keep c.args.d c.args.p) c.from_residual.result c.from_residual.ensures.0 (refl, refl) in record { ran = z.0; heard = z.1; beyond = search rules; kept = λ e. absurd (not_kept c.from_residual.result c.from_residual.ensures.0 e) }

pub returns-in_default : goal.returns-in_default
returns-in_default c = record { ran = rest _ _; heard = heard.nothing c.args.d c.args.p; beyond = search rules; kept = λ e. absurd cc }

pub returns-in-Ok : goal.returns-in-Ok
returns-in-Ok c = record { ran = goes_ran (parts_of c.args.self.now) (parts_of c.keep_way.new.self) c.in-Ok.ensures.goes; heard = heard_at c.in-Ok.ensures.seen (heard.kept c.args.d c.args.p); beyond = search rules; kept = λ e. (c.in-Some.way.page, c.in-Ok.ensures.kept, c.in-Some.ensures.page.0, c.in-Some.ensures.page.1) }

pub returns-in-Err : goal.returns-in-Err
returns-in-Err c = record { ran = goes_ran (parts_of c.args.self.now) (parts_of c.keep_way.new.self) c.in-Err.ensures.goes; heard = heard_at c.in-Err.ensures.seen (heard.nothing c.args.d c.args.p); beyond = search rules; kept = λ e. absurd cc }
