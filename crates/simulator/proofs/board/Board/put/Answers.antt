use Rattle.simulator.specs.View.{parts_of}
use Rattle.simulator.proofs.Asked.{put_goes}
use Rattle.simulator.proofs.board.Board.put.Goals as goal

pub returns : goal.returns
returns c =
    put_goes (parts_of c.args.self.now) c.write.new.self.frames c.write.new.self.words.now c.args.frame c.args.word c.args.x (parts_of c.play.new.self) c.args.self.now.memory.whole c.requires.frame c.requires.word c.write.ensures.frames c.write.ensures.words c.play.ensures.goes
