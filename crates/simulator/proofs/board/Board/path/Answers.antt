use Rattle.std.proofs.Common.{sym, ◌∙◌, arith}
use Rattle.simulator.specs.Parts.{hw_of}
use Rattle.simulator.specs.View.{parts_of}
use Rattle.simulator.proofs.Accesses.{walk_none, walk_half, walk_whole}
use Rattle.simulator.proofs.board.Board.path.Goals as goal

pub returns-then-top-eq0-clause-walked : goal.returns-then-top-eq0-clause-walked
returns-then-top-eq0-clause-walked c = walk_none (hw_of (parts_of c.args.self.now)) c.args.d c.args.p (sym c.word-top.ensures ∙ c.if-top-eq0.true)

pub returns-then-low-eq0-clause-walked : goal.returns-then-low-eq0-clause-walked
returns-then-low-eq0-clause-walked c =
    walk_half (hw_of (parts_of c.args.self.now)) c.args.d c.args.p c.word-top.result (sym c.word-top.ensures) (omega arith) (sym c.word-low.ensures ∙ c.if-low-eq0.true)

pub returns-then-entry-eq0-clause-walked : goal.returns-then-entry-eq0-clause-walked
returns-then-entry-eq0-clause-walked c =
    sym c.if-entry-eq0.true ∙ (c.word-entry.ensures ∙ walk_whole (hw_of (parts_of c.args.self.now)) c.args.d c.args.p c.word-top.result c.word-low.result c.if-not-self.false (sym c.word-top.ensures) (omega arith) (sym c.word-low.ensures) (omega arith))

pub returns-clause-walked : goal.returns-clause-walked
returns-clause-walked c =
    c.word-entry.ensures ∙ walk_whole (hw_of (parts_of c.args.self.now)) c.args.d c.args.p c.word-top.result c.word-low.result c.if-not-self.false (sym c.word-top.ensures) (omega arith) (sym c.word-low.ensures) (omega arith)
