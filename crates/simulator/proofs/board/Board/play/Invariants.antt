use Rattle.simulator.specs.Parts.{Goes}
use Rattle.simulator.specs.View.{parts_of}
use Rattle.simulator.proofs.board.Board.play.Given as goal

abbrev pub invariant-loop : goal.invariant-loop
invariant-loop l = Goes (parts_of l.initial.self) (parts_of l.self)
