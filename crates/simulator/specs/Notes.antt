-- What an event in the log is, and how many events a row of events still owes.
-- Assumes nothing.
use Rattle.std.specs.Prelude.{ℕ, Bool, true, false, List, [], ◌∷◌}
use Rattle.house.specs.Event.{Event, Asked, Told, Loaded, Stored, Faulted, Poked, TookFrom, PutInto, Missed, Drained}
use Rattle.simulator.specs.declared.events.Event.{Event as Note}
use Rattle.simulator.specs.declared.events.Event.TheVariants as note

abbrev pub event_of : Note → Event
event_of (note.Asked c k) = Asked c k
event_of (note.Told c k a) = Told c k a
event_of (note.Loaded c v k x) = Loaded c v k x
event_of (note.Stored c v k x) = Stored c v k x
event_of (note.Faulted c v) = Faulted c v
event_of (note.Poked c v d) = Poked c v d
event_of (note.Took d p f k x) = TookFrom d p f k x
event_of (note.Put d p f k x) = PutInto d p f k x
event_of (note.Missed d p w) = Missed d p w
event_of (note.Drained d b) = Drained d b

-- is it neither asking nor answering
abbrev pub aside : Event → Bool
aside (Asked c k) = false
aside (Told c k a) = false
aside (Loaded c v k x) = true
aside (Stored c v k x) = true
aside (Faulted c v) = true
aside (Poked c v d) = true
aside (TookFrom d p f k x) = true
aside (PutInto d p f k x) = true
aside (Missed d p w) = true
aside (Drained d b) = true

-- an answer is owed if the latest of asking and answering is an asking
unfoldable pub owed : List Event → ℕ
owed [] = 0
owed (Asked c k ∷ es) = 1
owed (Told c k a ∷ es) = 0
owed (Loaded c v k x ∷ es) = owed es
owed (Stored c v k x ∷ es) = owed es
owed (Faulted c v ∷ es) = owed es
owed (Poked c v d ∷ es) = owed es
owed (TookFrom d p f k x ∷ es) = owed es
owed (PutInto d p f k x ∷ es) = owed es
owed (Missed d p w ∷ es) = owed es
owed (Drained d b ∷ es) = owed es
