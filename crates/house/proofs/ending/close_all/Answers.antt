use Rattle.ledger.specs.View.{view_of}
use Rattle.ledger.specs.Room.{device_of}
use Rattle.ledger.specs.Uses.{owner_is}
use Rattle.house.specs.Closures.{ClosedOne}
use Rattle.std.proofs.Common.{refl, ℕ, ◌∙◌, subst}
use Rattle.house.proofs.ClosedTurns.{closed_start, closed_turn, turn_owner}
use Rattle.house.proofs.ending.close_all.Goals as goal

pub loop-d-init : goal.loop-d-init
loop-d-init g c = ((refl, refl, refl), closed_start _ _ _ _ _)

pub loop-d-preserved : goal.loop-d-preserved
loop-d-preserved g c =
    let i = c.loop-d.invariant in
    let h = c.close_held-all.ensures in
    let one = subst (λ (k : ℕ). ClosedOne (owner_is c.args.who (device_of c.loop-d.room.words.now c.loop-d.d)) c.args.who c.loop-d.d (view_of k c.loop-d.room.words.now) (g.M.Machine.hw c.loop-d.w) (g.M.Machine.seen c.loop-d.w) (view_of k c.close_held-all.new.room.words.now) c.close_held-all.result (g.M.Machine.hw c.close_held-all.new.w) (g.M.Machine.seen c.close_held-all.new.w)) i.0.0 h.closed in
    ((h.same.0 ∙ i.0.0, h.same.1 ∙ i.0.1, h.same.2 ∙ i.0.2), closed_turn i.1 one (turn_owner i.1))
