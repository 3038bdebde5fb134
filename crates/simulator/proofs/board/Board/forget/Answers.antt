use Rattle.simulator.specs.View.{parts_of}
use Rattle.simulator.proofs.Forgets.{forgot_all}
use Rattle.simulator.proofs.board.Board.forget.Goals as goal

pub returns : goal.returns
returns c =
    let r = forgot_all c.args.d (parts_of c.args.self.now) _ _ _ _ c.forget.ensures.list c.forget-2.ensures.list c.forget-3.ensures.list c.forget-4.ensures.list in record { goes = r.0; forgot = r.1 }
