-- What a row of numbers in the log means: every row means an event.
-- Assumes nothing.
use Rattle.std.specs.Prelude.{cond, ◌==◌, List, map}
use Rattle.house.specs.declared.Call.{Call}
use Rattle.house.specs.declared.Call.TheVariants.{Get, Free, Give, Open, Close, Regs, Lend, Recall, End}
use Rattle.house.specs.declared.Answer.TheVariants.{Done, Later, No}
use Rattle.simulator.specs.declared.events.Event.{Event}
use Rattle.simulator.specs.declared.events.Event.TheVariants.{Asked, Told, Loaded, Stored, Faulted, Poked, Took, Put, Missed, Drained}
use Rattle.simulator.specs.declared.row.Row.{Row}
use Rattle.simulator.specs.declared.log.Log.{Log}
use Rattle.simulator.specs.Lists.{newest}

abbrev pub call_in : Row → Call
call_in r =
    cond (r.call == 0) (Get r.a)
    (cond (r.call == 1) (Free r.a)
    (cond (r.call == 2) (Give r.a r.b r.c)
    (cond (r.call == 3) (Open r.a)
    (cond (r.call == 4) (Close r.a)
    (cond (r.call == 5) (Regs r.a r.b)
    (cond (r.call == 6) (Lend r.a r.b r.c (r.flag == 1))
    (cond (r.call == 7) (Recall r.a) (End r.a))))))))

abbrev pub event_in : Row → Event
event_in r =
    cond (r.kind == 0) (Asked r.who (call_in r))
    (cond (r.kind == 1) (Told r.who (call_in r) Done)
    (cond (r.kind == 2) (Told r.who (call_in r) Later)
    (cond (r.kind == 3) (Told r.who (call_in r) (No r.reason))
    (cond (r.kind == 4) (Loaded r.who r.a r.b r.x)
    (cond (r.kind == 5) (Stored r.who r.a r.b r.x)
    (cond (r.kind == 6) (Faulted r.who r.a)
    (cond (r.kind == 7) (Poked r.who r.a r.b)
    (cond (r.kind == 8) (Took r.who r.a r.b r.c r.x)
    (cond (r.kind == 9) (Put r.who r.a r.b r.c r.x)
    (cond (r.kind == 10) (Missed r.who r.a (r.flag == 1)) (Drained r.who (r.flag == 1))))))))))))

-- what a log tells, the latest first
abbrev pub events_of : Log → List Event
events_of l = map event_in (newest l.rows)
