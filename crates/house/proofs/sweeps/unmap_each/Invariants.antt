use Rattle.std.proofs.Common.{ℕ, ◌*◌}
use Rattle.ledger.specs.Room.{place_of}
use Rattle.ledger.specs.Rooms.{says, Becomes}
use Rattle.house.specs.Unmapping.{Hid}
use Rattle.house.proofs.sweeps.unmap_each.Given as goal

abbrev pub invariant-loop-block : goal.invariant-loop-block
invariant-loop-block g l =
    Becomes l.fn.room (g.S.Sweep.below l.s l.who (64 * l.block) (says l.fn.room)) l.room ×
    Hid l.who (λ (u : ℕ). g.S.Sweep.shows l.s (place_of l.fn.room.words.now l.who u)) (g.M.Machine.hw l.fn.w) (g.M.Machine.seen l.fn.w) (64 * l.block) (g.M.Machine.hw l.w) (g.M.Machine.seen l.w)

abbrev pub invariant-loop-v : goal.invariant-loop-v
invariant-loop-v g l =
    Becomes l.fn.room (g.S.Sweep.below l.s l.who l.v (says l.fn.room)) l.room ×
    Hid l.who (λ (u : ℕ). g.S.Sweep.shows l.s (place_of l.fn.room.words.now l.who u)) (g.M.Machine.hw l.fn.w) (g.M.Machine.seen l.fn.w) l.v (g.M.Machine.hw l.w) (g.M.Machine.seen l.w)
