use Rattle.house.specs.Machine.{rest}
use Rattle.simulator.specs.View.{parts_of}
use Rattle.simulator.proofs.Lines.{steps_run, ran_comes, same_ran, went_on, all_over}
use Rattle.simulator.proofs.sim.Sim.turn.Goals as goal

pub returns-in_err-who-in-Some-Ok : goal.returns-in_err-who-in-Some-Ok
returns-in_err-who-in-Some-Ok g c =
    all_over (parts_of c.args.self.now.board.now) (parts_of c.play_line.new.self.board.now) c.from_residual.result c.from_residual.ensures.0 (steps_run c.play.ensures.goes (same_ran (parts_of c.play.new.self) (parts_of c.play_line.new.self.board.now) c.in_err-who-in-Some-Ok.ensures.board))

pub returns-in-Some-Ok-New : goal.returns-in-Some-Ok-New
returns-in-Some-Ok-New g c = steps_run c.play.ensures.goes (rest _ _)

pub returns-in-Asks : goal.returns-in-Asks
returns-in-Asks g c = ran_comes (steps_run c.play.ensures.goes (rest _ _)) (rw c.in-Asks.is at c.in_ok-who-in-Some-Ok.ensures.board).0

pub returns-in-Says : goal.returns-in-Says
returns-in-Says g c =
    steps_run c.play.ensures.goes (went_on c.in-Some-Ok.line (parts_of c.play.new.self) (parts_of c.play_line.new.self.board.now) c.in_ok-who-in-Some-Ok.field-0 c.in-Says.is c.in_ok-who-in-Some-Ok.ensures.board)

pub returns-in-Some-Err : goal.returns-in-Some-Err
returns-in-Some-Err g c = steps_run c.play.ensures.goes (rest _ _)

pub returns-in-None : goal.returns-in-None
returns-in-None g c = steps_run c.play.ensures.goes (rest _ _)
