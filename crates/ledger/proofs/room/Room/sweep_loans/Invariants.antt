use Rattle.std.proofs.Common.{◌*◌}
use Rattle.ledger.specs.Rooms.{says, Becomes}
use Rattle.ledger.specs.Uses.{swept_loan}
use Rattle.ledger.specs.Changes.{with_uses}
use Rattle.ledger.proofs.Swept.{below}
use Rattle.ledger.proofs.room.Room.sweep_loans.Given as goal

abbrev pub invariant-loop-block : goal.invariant-loop-block
invariant-loop-block l = Becomes l.fn.self (with_uses (below l.who (64 * l.block) (swept_loan l.home l.d)) (says l.fn.self)) l.self

abbrev pub invariant-loop-v : goal.invariant-loop-v
invariant-loop-v l = Becomes l.fn.self (with_uses (below l.who l.v (swept_loan l.home l.d)) (says l.fn.self)) l.self
