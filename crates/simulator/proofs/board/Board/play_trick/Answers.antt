use Rattle.simulator.specs.View.{parts_of}
use Rattle.simulator.proofs.Tricks.{up_dropped, mid_dropped, leaf_dropped, less_flying}
use Rattle.simulator.proofs.board.Board.play_trick.Goals as goal

pub returns-in-3 : goal.returns-in-3
returns-in-3 c = up_dropped (parts_of c.args.self.now) _ c.lose_one.ensures.list

pub returns-in-4 : goal.returns-in-4
returns-in-4 c = mid_dropped (parts_of c.args.self.now) _ c.lose_one-in-4.ensures.list

pub returns-in-5 : goal.returns-in-5
returns-in-5 c = leaf_dropped (parts_of c.args.self.now) _ c.lose_one-in-5.ensures.list

pub returns-in-7 : goal.returns-in-7
returns-in-7 c = less_flying (parts_of c.args.self.now) _ c.lose_one-in-7.ensures.list
