use Rattle.simulator.specs.View.{parts_of}
use Rattle.simulator.proofs.Asked.{steps_then}
use Rattle.simulator.proofs.DeviceLines.{keep_top, keep_low, keep_page}
use Rattle.simulator.proofs.board.Board.keep_way.Goals as goal

pub returns-in_err-learn-clause-goes : goal.returns-in_err-learn-clause-goes
returns-in_err-learn-clause-goes c = keep_top (parts_of c.args.self.now) c.args.way c.requires _ _ _ c.learn.ensures.list

pub returns-in_err-learn-2-clause-goes : goal.returns-in_err-learn-2-clause-goes
returns-in_err-learn-2-clause-goes c =
    steps_then (keep_top (parts_of c.args.self.now) c.args.way c.requires _ _ _ c.learn.ensures.list)
    (keep_low (parts_of c.args.self.now) c.args.way c.requires _ _ _ _ c.in_ok-learn.ensures.has c.learn-2.ensures.list)

pub returns-clause-goes : goal.returns-clause-goes
returns-clause-goes c =
    steps_then (keep_top (parts_of c.args.self.now) c.args.way c.requires _ _ _ c.learn.ensures.list)
    (steps_then (keep_low (parts_of c.args.self.now) c.args.way c.requires _ _ _ _ c.in_ok-learn.ensures.has c.learn-2.ensures.list)
    (keep_page (parts_of c.args.self.now) c.args.way c.requires _ _ _ _ _ c.in_ok-learn-2.ensures.has c.learn-3.ensures.list))
