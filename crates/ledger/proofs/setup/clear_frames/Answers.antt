use Rattle.std.proofs.Common.{◌≡◌, cond, eqb, ◌∙◌, arith}
use Rattle.std.proofs.lemmas.Bool.{eq-eqb, ne_eqb}
use Rattle.ledger.proofs.Cleared.{cleared_frame}
use Rattle.ledger.proofs.setup.clear_frames.Goals as goal
use Rattle.ledger.proofs.setup.clear_frames.Goals.{then-f-eq0, else-f-eq0}

pub loop-f-preserved : goal.loop-f-preserved
loop-f-preserved c = cleared_frame c.args.words.now c.loop-f.words c.loop-f.f c.frame_word-at.result c.if-f-eq0.low c.frame_word-at.ensures (omega arith) low c.loop-f.invariant
  where
    low : c.if-f-eq0.low ≡ cond (eqb c.loop-f.f 0) 0 2
    low = elim c.if-f-eq0.branch [ then-f-eq0 w ↦ w.low-is ∙ rw (eq-eqb c.loop-f.f 0 w.if-f-eq0.true) | else-f-eq0 w ↦ w.low-is ∙ rw (ne_eqb c.loop-f.f 0 w.if-f-eq0.false) ]
