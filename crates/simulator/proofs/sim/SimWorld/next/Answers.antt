use Rattle.house.specs.Machine.{rest, over}
use Rattle.simulator.proofs.Lines.{runs_then, ran_comes}
use Rattle.simulator.proofs.sim.SimWorld.next.Goals as goal

pub loop-init : goal.loop-init
loop-init g c = rest _ _

pub returns-in-Ok-Some : goal.returns-in-Ok-Some
returns-in-Ok-Some g c = ran_comes c.loop.invariant (rw c.in-Ok-Some.field-0-is at c.in-Ok-Some.ensures)

pub returns-in-Err : goal.returns-in-Err
returns-in-Err g c = over (runs_then c.loop.invariant c.in-Err.ensures)

pub loop-preserved : goal.loop-preserved
loop-preserved g c = runs_then c.loop.invariant (rw c.in-Ok-None.field-0-is at c.in-Ok-None.ensures)

pub returns : goal.returns
returns g c = over c.loop.invariant
