use Rattle.std.proofs.Common.{arith}
use Rattle.house.specs.Promise.{can, start_of}
use Rattle.simulator.specs.Parts.{hw_of, seen_of}
use Rattle.simulator.specs.View.{parts_of}
use Rattle.simulator.proofs.Owed.{told_owed, room_told}
use Rattle.simulator.proofs.board.Board.tell.Goals as goal

pub push-requires : goal.push-requires
push-requires c =
    let p = parts_of c.args.self.now in
    omega (arith, told_owed can (start_of (hw_of p)) (seen_of p) c.args.who c.args.c c.args.a c.requires.0 c.requires.1 c.requires.2, c.args.self.now.room)

pub invariant_of-self-clause-room : goal.invariant_of-self-clause-room
invariant_of-self-clause-room c =
    let p = parts_of c.args.self.now in
    let o = told_owed can (start_of (hw_of p)) (seen_of p) c.args.who c.args.c c.args.a c.requires.0 c.requires.1 c.requires.2 in
    room_told p.notes _ c.args.who c.args.c c.args.a c.args.self.now.log.rows.count _ c.args.self.now.left _ c.push.ensures.list c.push.ensures.count o (omega (arith, c.args.self.now.room))
