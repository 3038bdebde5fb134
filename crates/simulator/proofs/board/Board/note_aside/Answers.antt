use Rattle.std.proofs.Common.{arith}
use Rattle.simulator.specs.View.{parts_of}
use Rattle.simulator.proofs.Owed.{room_aside}
use Rattle.simulator.proofs.board.Board.note_aside.Goals as goal

pub invariant_of-self-clause-room : goal.invariant_of-self-clause-room
invariant_of-self-clause-room c = room_aside c.args.e (parts_of c.args.self.now).notes _ c.args.self.now.log.rows.count _ c.args.self.now.left _ c.requires c.push.ensures.list c.push.ensures.count (omega arith)
