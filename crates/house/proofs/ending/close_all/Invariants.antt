use Rattle.ledger.specs.Rooms.{says, Same}
use Rattle.std.proofs.Common.{ℕ}
use Rattle.ledger.specs.Room.{device_of}
use Rattle.ledger.specs.Uses.{owner_is}
use Rattle.ledger.specs.View.{view_of}
use Rattle.house.specs.Closures.{ClosedSoFar}
use Rattle.house.proofs.ending.close_all.Given as goal

abbrev pub invariant-loop-d : goal.invariant-loop-d
invariant-loop-d g l =
    Same l.initial.room l.room ×
    ClosedSoFar (λ (e : ℕ). owner_is l.who (device_of l.initial.room.words.now e)) l.who (says l.initial.room) (g.M.Machine.hw l.initial.w) (g.M.Machine.seen l.initial.w) l.d (view_of l.initial.room.frames l.room.words.now) l.all (g.M.Machine.hw l.w) (g.M.Machine.seen l.w)
