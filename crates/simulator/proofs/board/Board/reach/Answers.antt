use Rattle.simulator.specs.View.{parts_of}
use Rattle.simulator.proofs.DeviceLines.{missed_at}
use Rattle.simulator.proofs.board.Board.reach.Goals as goal

pub returns-then-branch : goal.returns-then-branch
returns-then-branch c =
    (c.in_ok-has_page.ensures.0, c.in_ok-has_page.ensures.1, missed_at (parts_of c.args.self.now) (parts_of c.miss_at.new.self) c.args.d c.args.p c.args.writes c.in_ok-miss_at.field-0 c.if-branch.true c.in_ok-miss_at.ensures)
