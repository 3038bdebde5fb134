use Rattle.std.proofs.Common.{sym}
use Rattle.simulator.specs.View.{parts_of}
use Rattle.simulator.proofs.Lines.{shown_faults, shown_pokes}
use Rattle.simulator.proofs.board.Board.frame_shown.Goals as goal

pub returns-in_ok-note_aside-in-Hidden : goal.returns-in_ok-note_aside-in-Hidden
returns-in_ok-note_aside-in-Hidden c =
    let s = c.in_ok-in_space.ensures in
    shown_faults (parts_of c.args.self.now) (parts_of c.note_aside.new.self) c.args.who c.args.v c.args.word s.0 s.1 (sym c.in-Hidden.ensures.shown) c.in_ok-note_aside-in-Hidden.ensures.parts

pub returns-in_ok-note_aside-in-Regs : goal.returns-in_ok-note_aside-in-Regs
returns-in_ok-note_aside-in-Regs c =
    let s = c.in_ok-in_space.ensures in
    shown_pokes (parts_of c.args.self.now) (parts_of c.note_aside-in-Regs.new.self) c.args.who c.args.v c.args.word c.in-Regs.d s.0 s.1 (sym c.in-Regs.ensures.shown) c.in_ok-note_aside-in-Regs.ensures.parts
