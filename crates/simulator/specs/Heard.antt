-- What is handed over for a line of a script.
-- Assumes nothing.
use Rattle.std.specs.Prelude.{◌≡◌, ℕ, ◌<◌, ◌≤◌, Bool, true, false, List, ◌∷◌, Some, Result, Ok, Err, MatchBool}
use Rattle.house.specs.declared.Call.{Call}
use Rattle.house.specs.declared.Call.TheVariants as call
use Rattle.house.specs.declared.Answer.{Answer}
use Rattle.house.specs.declared.Answer.TheVariants as answer
use Rattle.house.specs.Event.{Event, Asked, Told, Loaded, Stored, Faulted, Poked, TookFrom, PutInto, Missed, Drained}
use Rattle.house.specs.Machine.{Comes}
use Rattle.script.specs.declared.forms.Request.{Request}
use Rattle.script.specs.declared.forms.Request.TheVariants as request
use Rattle.script.specs.declared.forms.Line.{Line}
use Rattle.script.specs.declared.forms.Line.TheVariants as line
use Rattle.script.specs.declared.outcomes.Outcome.{Outcome}
use Rattle.script.specs.declared.outcomes.Outcome.TheVariants as say
use Rattle.simulator.specs.declared.replies.Reply.{Reply}
use Rattle.simulator.specs.declared.replies.Reply.TheVariants.{Says, Quiet, Asks}
use Rattle.simulator.specs.declared.front.NoRoom.{NoRoom}
use Rattle.simulator.specs.declared.refused.Refused.{Refused}
use Rattle.simulator.specs.Refusals.{refusal_of}
use Rattle.simulator.specs.Parts.{Parts, hw_of, seen_of, Ran}
use Rattle.simulator.specs.Effects.{Same}

-- a line's request is this call
abbrev pub call_of : Request → Call
call_of (request.Get v) = call.Get v
call_of (request.Free v) = call.Free v
call_of (request.Give v to at) = call.Give v to at
call_of (request.Open d) = call.Open d
call_of (request.Close d) = call.Close d
call_of (request.Regs d v) = call.Regs d v
call_of (request.Lend v d p w) = call.Lend v d p w
call_of (request.Recall v) = call.Recall v
call_of (request.End who) = call.End who

abbrev pub answered : Answer → Outcome
answered answer.Done = say.Done
answered answer.Later = say.Later
answered (answer.No k) = say.No k

-- What is said of an event. Asking is answered later, and of drains nothing is ever said.
abbrev pub outcome_of : Event → Outcome
outcome_of (Asked c k) = say.NotYet
outcome_of (Told c k a) = answered a
outcome_of (Loaded c v k x) = say.Loaded x
outcome_of (Stored c v k x) = say.Stored
outcome_of (Faulted c v) = say.Fault
outcome_of (Poked c v d) = say.Poked
outcome_of (TookFrom d p f k x) = say.Took x
outcome_of (PutInto d p f k x) = say.Put
outcome_of (Missed d p w) = say.Miss
outcome_of (Drained d b) = say.NotYet

-- Which events a line can bring about, with what is said; and what is said of a line that brings about none.
pub data Heard (es : List Event) : Line → Outcome → List Event → Type 0 where
  loaded : (c v k x : ℕ) → Heard es (line.Load c v k) (outcome_of (Loaded c v k x)) (Loaded c v k x ∷ es)
  load_faults : (c v k : ℕ) → Heard es (line.Load c v k) (outcome_of (Faulted c v)) (Faulted c v ∷ es)
  load_pokes : (c v k d : ℕ) → Heard es (line.Load c v k) (outcome_of (Poked c v d)) (Poked c v d ∷ es)
  stored : (c v k x : ℕ) → Heard es (line.Store c v k x) (outcome_of (Stored c v k x)) (Stored c v k x ∷ es)
  store_faults : (c v k x : ℕ) → Heard es (line.Store c v k x) (outcome_of (Faulted c v)) (Faulted c v ∷ es)
  store_pokes : (c v k x d : ℕ) → Heard es (line.Store c v k x) (outcome_of (Poked c v d)) (Poked c v d ∷ es)
  took : (d p f k x : ℕ) → Heard es (line.Read d p k) (outcome_of (TookFrom d p f k x)) (TookFrom d p f k x ∷ es)
  read_misses : (d p k : ℕ) → Heard es (line.Read d p k) (outcome_of (Missed d p false)) (Missed d p false ∷ es)
  puts : (d p f k x : ℕ) → Heard es (line.Write d p k x) (outcome_of (PutInto d p f k x)) (PutInto d p f k x ∷ es)
  write_misses : (d p k x : ℕ) → Heard es (line.Write d p k x) (outcome_of (Missed d p true)) (Missed d p true ∷ es)
  kept_puts : (d p f k x : ℕ) → Heard es (line.Kept d p k x) (outcome_of (PutInto d p f k x)) (PutInto d p f k x ∷ es)
  -- by a page that isn't kept, or may not be written
  kept_misses : (d p k x : ℕ) → Heard es (line.Kept d p k x) say.Miss es
  kept : (d p : ℕ) → Heard es (line.Keep d p) say.Kept es
  nothing : (d p : ℕ) → Heard es (line.Keep d p) say.Nothing es
  -- a number out of range; no room to note it
  beyond : (l : Line) → Heard es l (say.No 1) es
  full : (l : Line) → Heard es l say.Over es

-- a number of the line is out of range, where there are n devices
abbrev pub Beyond : ℕ → Line → Type 0
Beyond n (line.Call c r) = 32 ≤ c
Beyond n (line.Load c v k) = c < 32 → v < 1024 → k < 512 → ⊥
Beyond n (line.Store c v k x) = c < 32 → v < 1024 → k < 512 → ⊥
Beyond n (line.Read d p k) = d < n → p < 262144 → k < 512 → ⊥
Beyond n (line.Write d p k x) = d < n → p < 262144 → k < 512 → ⊥
Beyond n (line.Keep d p) = d < n → p < 262144 → ⊥
Beyond n (line.Kept d p k x) = d < n → p < 262144 → k < 512 → ⊥
Beyond n (line.Refuse m) = ⊥
Beyond n (line.Seed s) = ⊥
Beyond n line.New = ⊥

-- what is said where a line may be refused
abbrev pub said_of : Result Outcome Refused → Outcome
said_of (Ok o) = o
said_of (Err e) = refusal_of e

abbrev pub reply_of : Result Reply Refused → Reply
reply_of (Ok r) = r
reply_of (Err e) = Says (refusal_of e)

-- what becomes of a line: q is the machine after it
abbrev pub Replied : Line → Parts → Reply → Parts → Type 0
Replied l p (Says o) q = Ran p q × Heard (seen_of p) l o (seen_of q)
Replied l p Quiet q = Same p q
Replied l p (Asks c k) q = Comes (hw_of p) (seen_of p) (Some (c, k)) (hw_of q) (seen_of q) × ((r : Request) × (l ≡ line.Call c r) × (k ≡ call_of r))

-- nothing, where the log has no room for a call
abbrev pub Answered : Line → Parts → Result Reply NoRoom → Parts → Type 0
Answered l p (Ok r) q = Replied l p r q
Answered l p (Err e) q = Same p q

-- `no`, `seed` and `new` print nothing
abbrev pub prints_of : Line → Bool
prints_of (line.Call c r) = true
prints_of (line.Store c v k x) = true
prints_of (line.Load c v k) = true
prints_of (line.Read d p k) = true
prints_of (line.Write d p k x) = true
prints_of (line.Keep d p) = true
prints_of (line.Kept d p k x) = true
prints_of (line.Refuse n) = false
prints_of (line.Seed s) = false
prints_of line.New = false

-- what is handed to a script for a reply: at most one outcome
abbrev pub HandedOver : {S : Type 0} → (S → Outcome → S → Type 0) → S → Line → Result Reply NoRoom → S → Type 0
HandedOver handed s l (Ok (Says o)) t = handed s o t
HandedOver handed s l (Ok Quiet) t = t ≡ s
HandedOver handed s l (Ok (Asks c k)) t = t ≡ s
HandedOver handed s l (Err e) t = MatchBool (prints_of l) (handed s say.Over t) (t ≡ s)
