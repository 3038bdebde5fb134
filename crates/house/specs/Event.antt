-- Events: calls and their answers, what programs see at their places, what devices do, and what the IOMMU answered to drains.
-- A history is a list of them, the newest first. Nothing is assumed here.
use Rattle.std.specs.Prelude.{ℕ, Bool}
use Rattle.house.specs.declared.Call.{Call}
use Rattle.house.specs.declared.Answer.{Answer}

pub data Event : Type 0 where
  -- a program makes a call, and is told its answer
  Asked : (who : ℕ) → Call → Event
  Told : (who : ℕ) → Call → Answer → Event
  -- a program loads x from a word, or stores x there, at place v of its address space; or nothing is mapped at v
  Loaded Stored : (who v word x : ℕ) → Event
  Faulted : (who v : ℕ) → Event
  -- place v shows the registers of device d, and the program accesses them
  Poked : (who v d : ℕ) → Event
  -- an access in the name of device d, at its page p: x is read from a word of a frame, or written there
  TookFrom : (d p frame word x : ℕ) → Event
  PutInto : (d p frame word x : ℕ) → Event
  -- an access in the name of d at p found no mapping, or, for a write, none that may be written
  Missed : (d p : ℕ) → (writes : Bool) → Event
  -- the IOMMU was asked to forget device d, and answered yes or no
  Drained : (d : ℕ) → Bool → Event
