use Rattle.std.proofs.Common.{rules}
use Rattle.script.specs.declared.forms.Line.TheVariants as line
use Rattle.simulator.specs.View.{parts_of}
use Rattle.simulator.proofs.Lines.{refused_at, shown_full, load_loads}
use Rattle.simulator.proofs.board.Board.load.Goals as goal

pub returns-in_err-frame : goal.returns-in_err-frame
returns-in_err-frame c = let z = refused_at (parts_of c.args.self.now) (parts_of c.frame_shown.new.self) (line.Load c.args.who c.args.v c.args.word) c.from_residual.result c.from_residual.ensures.0 c.in_err-frame.ensures.0 in record { ran = z.0; heard = z.1; beyond = search rules }

pub returns-in_err-note_aside : goal.returns-in_err-note_aside
returns-in_err-note_aside c =
    let s = shown_full (parts_of c.args.self.now) (parts_of c.frame_shown.new.self) (parts_of c.note_aside.new.self) c.args.who c.args.v c.args.word c.in-Ok.frame (rw c.in-Ok.is at c.in_ok-frame.ensures) c.in_err-note_aside.ensures.parts in
    let z = refused_at (parts_of c.args.self.now) (parts_of c.note_aside.new.self) (line.Load c.args.who c.args.v c.args.word) c.from_residual-in_err-note_aside.result c.from_residual-in_err-note_aside.ensures.0 s in record { ran = z.0; heard = z.1; beyond = search rules }

pub returns : goal.returns
returns c =
    let z = load_loads (parts_of c.args.self.now) (parts_of c.frame_shown.new.self) (parts_of c.note_aside.new.self) c.args.who c.args.v c.args.word c.in-Ok.frame c.word-x.result (rw c.in-Ok.is at c.in_ok-frame.ensures) c.word-x.ensures c.in_ok-note_aside.ensures.parts in record { ran = z.0; heard = z.1; beyond = search rules }
