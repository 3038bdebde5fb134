use Rattle.ledger.specs.Rooms.{Same}
use Rattle.ledger.proofs.tests.fill.Given as goal

abbrev pub invariant-loop-v : goal.invariant-loop-v
invariant-loop-v l = Same l.fn.room l.room
