-- A call from its asking to its answer: what a refused one leaves, and what later and done rest on.
-- Assumes nothing.
use Rattle.std.specs.Prelude.{◌≡◌, ℕ, Bool, true, false, cond, ◌&&◌, T, ◌⊎◌, List, [], ◌∷◌, ◌++◌, ◌==◌, nat_lt}
use mathlib.Core.List.{Memᴰ}
use Rattle.house.specs.declared.Call.{Call}
use Rattle.house.specs.declared.Call.TheVariants.{Get, Free, Give, Open, Close, Regs, Lend, Recall, End}
use Rattle.house.specs.declared.Answer.TheVariants.{Done, Later, No}
use Rattle.house.specs.Event.{Event, Asked, Told, Loaded, Stored, Faulted, Poked, TookFrom, PutInto, Missed, Drained}
use Rattle.house.specs.Meaning.{Lent, Leaving, Of, State, set_word, set_drains, loan, device_of, owner_is, Now, Quiet, Under, Run}

-- events of devices and of the unit, the only ones while a call is served
abbrev pub of_device : Event → Bool
of_device (Asked c k) = false
of_device (Told c k a) = false
of_device (Loaded c v k x) = false
of_device (Stored c v k x) = false
of_device (Faulted c v) = false
of_device (Poked c v d) = false
of_device (TookFrom d p f k x) = true
of_device (PutInto d p f k x) = true
of_device (Missed d p w) = true
of_device (Drained d b) = true

abbrev pub only_devices : List Event → Bool
only_devices [] = true
only_devices (e ∷ es) = of_device e && only_devices es

-- words after what devices wrote, the latest first
abbrev pub written : List Event → (ℕ → ℕ → ℕ) → ℕ → ℕ → ℕ
written [] m = m
written (Asked c k ∷ es) m = written es m
written (Told c k a ∷ es) m = written es m
written (Loaded c v k x ∷ es) m = written es m
written (Stored c v k x ∷ es) m = written es m
written (Faulted c v ∷ es) m = written es m
written (Poked c v d ∷ es) m = written es m
written (TookFrom d p f k x ∷ es) m = written es m
written (PutInto d p f k x ∷ es) m = λ g j. cond (g == f && j == k) x (written es m g j)
written (Missed d p w ∷ es) m = written es m
written (Drained d b ∷ es) m = written es m

-- devices that were forgotten, and that were not yet
abbrev pub drained_in : List Event → List ℕ
drained_in [] = []
drained_in (Asked c k ∷ es) = drained_in es
drained_in (Told c k a ∷ es) = drained_in es
drained_in (Loaded c v k x ∷ es) = drained_in es
drained_in (Stored c v k x ∷ es) = drained_in es
drained_in (Faulted c v ∷ es) = drained_in es
drained_in (Poked c v d ∷ es) = drained_in es
drained_in (TookFrom d p f k x ∷ es) = drained_in es
drained_in (PutInto d p f k x ∷ es) = drained_in es
drained_in (Missed d p w ∷ es) = drained_in es
drained_in (Drained d b ∷ es) = cond b (d ∷ drained_in es) (drained_in es)

abbrev pub undrained_in : List Event → List ℕ
undrained_in [] = []
undrained_in (Asked c k ∷ es) = undrained_in es
undrained_in (Told c k a ∷ es) = undrained_in es
undrained_in (Loaded c v k x ∷ es) = undrained_in es
undrained_in (Stored c v k x ∷ es) = undrained_in es
undrained_in (Faulted c v ∷ es) = undrained_in es
undrained_in (Poked c v d ∷ es) = undrained_in es
undrained_in (TookFrom d p f k x ∷ es) = undrained_in es
undrained_in (PutInto d p f k x ∷ es) = undrained_in es
undrained_in (Missed d p w ∷ es) = undrained_in es
undrained_in (Drained d b ∷ es) = cond b (undrained_in es) (d ∷ undrained_in es)

-- the same uses, devices, slots and registers, with what devices wrote and what was said of drains
abbrev pub after : List Event → State → State
after es t = set_drains (drained_in es) (undrained_in es) (set_word (written es t.word) t)

-- where a call began: what devices did since, what was before, and the state at which it was asked
pub record Began (every : Call → Bool) (start : State) (c : ℕ) (k : Call) (es : List Event) : Type 0 where
  pub since : List Event
  pub before : List Event
  pub state : State
  pub asked : es ≡ since ++ (Asked c k ∷ before)
  pub quiet : Run every start before state Quiet
  pub devices : T (only_devices since)

-- nothing but words changes, at any moment since, and these only where they were lent to be written, or leaving such a loan
pub record Untouched (every : Call → Bool) (start : State) (c : ℕ) (k : Call) (es : List Event) (s : State) (b : Began every start c k es) : Type 0 where
  pub state : s ≡ after b.since b.state
  pub throughout : (later earlier : List Event) → b.since ≡ later ++ earlier → Run every start (earlier ++ (Asked c k ∷ b.before)) (after earlier b.state) (Under c k)
  pub lent : (d p f j x : ℕ) → Memᴰ (PutInto d p f j x) b.since → (w : ℕ) × (v : ℕ) × ((b.state.what f ≡ Of w v (Lent d p true)) ⊎ (b.state.what f ≡ Of w v (Leaving d p true)))

-- A refused call changes nothing, from its asking to its answer, and meanwhile words change only by devices' writes to pages that
-- are lent to be written, or leaving such a loan.
abbrev pub RefusedIsUntouched : Type 0
RefusedIsUntouched =
    (start : State) (every : Call → Bool) (es : List Event) (s : State) (n : Now) (c : ℕ) (k : Call) (reason : ℕ) → Run every start (Told c k (No reason) ∷ es) s n →
    (b : Began every start c k es) × Untouched every start c k es s b

-- does a call wait for a device: by the state at which it was asked
abbrev pub waits_for : State → ℕ → Call → ℕ → Bool
waits_for t c (Get v) d = false
waits_for t c (Free v) d = false
waits_for t c (Give v to at) d = false
waits_for t c (Open e) d = false
waits_for t c (Close e) d = d == e
waits_for t c (Regs e v) d = false
waits_for t c (Lend v e p w) d = false
waits_for t c (Recall v) d = d == device_of (loan t c v)
waits_for t c (End w) d = nat_lt d t.devices && owner_is w (t.dev d)

-- Later is told only if a device for which the call waits was asked to be forgotten during it, and said nothing but no.
abbrev pub LaterIsExcused : Type 0
LaterIsExcused =
    (start : State) (every : Call → Bool) (es : List Event) (s : State) (n : Now) (c : ℕ) (k : Call) → Run every start (Told c k Later ∷ es) s n →
    (b : Began every start c k es) × (d : ℕ) × T (waits_for b.state c k d) × Memᴰ (Drained d false) b.since × (Memᴰ (Drained d true) b.since → ⊥)

-- Done is told only if every device for which the call waits was forgotten during it.
abbrev pub DoneIsDrained : Type 0
DoneIsDrained =
    (start : State) (every : Call → Bool) (es : List Event) (s : State) (n : Now) (c : ℕ) (k : Call) → Run every start (Told c k Done ∷ es) s n →
    (b : Began every start c k es) × ((d : ℕ) → T (waits_for b.state c k d) → Memᴰ (Drained d true) b.since)
