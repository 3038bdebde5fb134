use Rattle.std.proofs.Common.{arith}
use Rattle.simulator.specs.View.{parts_of}
use Rattle.simulator.proofs.Forgets.{left_kept, drain_no, drain_yes, steps_left}
use Rattle.simulator.proofs.board.Board.drain.Goals as goal

pub note_drain-requires : goal.note_drain-requires
note_drain-requires c =
    omega (arith, left_kept (parts_of c.args.self.now) (parts_of c.play.new.self) (parts_of c.refuses.new.self) c.play.ensures.goes c.refuses.ensures.parts)

pub returns-then-refuses : goal.returns-then-refuses
returns-then-refuses c =
    drain_no c.args.d (parts_of c.args.self.now) (parts_of c.play.new.self) (parts_of c.refuses.new.self) (parts_of c.note_drain.new.self) (parts_of c.play-then-refuses.new.self) c.play.ensures.goes c.refuses.ensures.parts c.note_drain.ensures.hw c.note_drain.ensures.seen c.play-then-refuses.ensures.goes

pub note_drain-requires-2 : goal.note_drain-requires-2
note_drain-requires-2 c =
    omega (arith, left_kept (parts_of c.args.self.now) (parts_of c.play.new.self) (parts_of c.refuses.new.self) c.play.ensures.goes c.refuses.ensures.parts, steps_left c.forget.ensures.goes)

pub returns : goal.returns
returns c =
    drain_yes c.args.d (parts_of c.args.self.now) (parts_of c.play.new.self) (parts_of c.refuses.new.self) (parts_of c.forget.new.self) (parts_of c.note_drain-2.new.self) (parts_of c.play-2.new.self) c.play.ensures.goes c.refuses.ensures.parts c.forget.ensures.goes c.forget.ensures.forgot c.note_drain-2.ensures.hw c.note_drain-2.ensures.seen c.play-2.ensures.goes
