use Rattle.ledger.proofs.Becoming.{still, restated}
use Rattle.std.proofs.Common.{arith}
use Rattle.ledger.proofs.Closed.{closing_made}
use Rattle.ledger.proofs.room.Room.begin_closing.Goals as goal

pub returns : goal.returns
returns c = (c.leave_all.ensures.0, c.leave_all.ensures.1, (closing_made c.args.self.now.frames c.args.self.now.words.now c.leave_all.new.self.words.now c.set_device.new.words c.args.who c.args.d (still c.args.self.now c.leave_all.new.self _ c.leave_all.ensures) (omega arith) c.requires.owner c.requires.hidden c.leave_all.ensures.2 (c.set_device.ensures.view c.args.self.now.frames) c.set_device.ensures.tags).0, omega arith)

pub invariant_of-self : goal.invariant_of-self
invariant_of-self c = record { consistent = restated c.args.self.now c.leave_all.new.self _ _ c.leave_all.ensures (closing_made c.args.self.now.frames c.args.self.now.words.now c.leave_all.new.self.words.now c.set_device.new.words c.args.who c.args.d (still c.args.self.now c.leave_all.new.self _ c.leave_all.ensures) (omega arith) c.requires.owner c.requires.hidden c.leave_all.ensures.2 (c.set_device.ensures.view c.args.self.now.frames) c.set_device.ensures.tags).1 }
