use Rattle.std.proofs.Common.{refl, arith}
use Rattle.simulator.specs.View.{parts_of}
use Rattle.simulator.proofs.Owed.{room_asking}
use Rattle.simulator.proofs.board.Board.note_drain.Goals as goal

pub invariant_of-self-clause-room : goal.invariant_of-self-clause-room
invariant_of-self-clause-room c =
    room_asking _ (parts_of c.args.self.now).notes _ c.args.self.now.log.rows.count _ c.args.self.now.left _ _ refl c.push.ensures.list c.push.ensures.count (omega arith) (omega (arith, c.args.self.now.room))
