use Rattle.simulator.specs.View.{parts_of}
use Rattle.simulator.proofs.Asked.{place_goes}
use Rattle.simulator.proofs.board.Board.place.Goals as goal

pub returns : goal.returns
returns c =
    place_goes (parts_of c.args.self.now) c.set.new.self.places.now c.args.who c.args.v c.args.view (parts_of c.play.new.self) c.args.self.now.spaces.whole c.requires.who c.requires.v c.set.ensures c.play.ensures.goes
