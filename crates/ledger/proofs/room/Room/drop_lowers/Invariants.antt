use Rattle.std.proofs.Common.{◌*◌}
use Rattle.ledger.specs.Rooms.{says, Becomes}
use Rattle.ledger.proofs.Closed.{lowers_below}
use Rattle.ledger.proofs.room.Room.drop_lowers.Given as goal

abbrev pub invariant-loop-block : goal.invariant-loop-block
invariant-loop-block l = Becomes l.fn.self (lowers_below l.d (64 * l.block) (says l.fn.self)) l.self

abbrev pub invariant-loop-index : goal.invariant-loop-index
invariant-loop-index l = Becomes l.fn.self (lowers_below l.d l.index (says l.fn.self)) l.self
