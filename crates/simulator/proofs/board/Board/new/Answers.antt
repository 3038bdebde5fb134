use Rattle.std.proofs.Common.{arith}
use Rattle.simulator.proofs.Owed.{room_start}
use Rattle.simulator.proofs.Words.{none_shown}
use Rattle.simulator.proofs.board.Board.new.Goals as goal

pub invariant_of-result-clause-shown : goal.invariant_of-result-clause-shown
invariant_of-result-clause-shown c = none_shown c.new-2.result.places.now c.new-2.ensures

pub invariant_of-result-clause-room : goal.invariant_of-result-clause-room
invariant_of-result-clause-room c = room_start _ c.new-7.result.rows.count _ c.new-7.ensures.events (omega arith)
