use Rattle.std.proofs.Common.{arith}
use Rattle.simulator.proofs.Listed.{sifted, sifting_in, sifting_out}
use Rattle.simulator.proofs.front.sift.Goals as goal
use Rattle.simulator.proofs.front.sift.Goals.{then-device-d, else-device-d}

pub loop-i-preserved : goal.loop-i-preserved
loop-i-preserved g c =
    elim c.if-device-d.branch [
      | then-device-d w ↦ rw (w.all-is, w.kept-is) (sifting_in g.T.Cached.device_of c.args.d c.args.all.now c.loop-i.all c.loop-i.kept c.loop-i.i c.loop-i.invariant c.index-all-i.result c.device.result (omega arith) c.index-all-i.is c.device.ensures w.if-device-d.true)
      | else-device-d w ↦ rw (w.all-is, w.kept-is) (sifting_out g.T.Cached.device_of c.args.d c.args.all.now c.loop-i.all c.loop-i.kept c.loop-i.i c.loop-i.invariant c.index-all-i.result c.device.result (omega arith) c.index-all-i.is c.device.ensures w.if-device-d.false)
    ]

pub returns-clause-list : goal.returns-clause-list
returns-clause-list g c = sifted g.T.Cached.device_of c.args.d c.args.all.now c.loop-i.all c.loop-i.kept c.loop-i.i c.loop-i.invariant c.args.n (omega arith)
