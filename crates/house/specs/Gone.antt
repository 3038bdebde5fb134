-- After a recall, a close or an end that was done: no event touches what was given back, until it is asked to be lent
-- again.
-- Assumes nothing.
use Rattle.std.specs.Prelude.{◌≡◌, ℕ, ◌<◌, Bool, true, false, ◌&&◌, ◌||◌, T, ◌⊎◌, List, [], ◌∷◌, ◌++◌, ◌==◌}
use Rattle.house.specs.declared.Call.{Call}
use Rattle.house.specs.declared.Call.TheVariants.{Get, Free, Give, Open, Close, Regs, Lend, Recall, End}
use Rattle.house.specs.declared.Answer.TheVariants.{Done}
use Rattle.house.specs.Event.{Event, Asked, Told, Loaded, Stored, Faulted, Poked, TookFrom, PutInto, Missed, Drained}
use Rattle.house.specs.Meaning.{Loan, Lent, Leaving, Of, State, Now, Quiet, Run}
use Rattle.house.specs.Served.{Began, waits_for}

-- a frame is read or written under the number of a device
abbrev pub touches : (device frame : ℕ) → Event → Bool
touches d f (Asked c k) = false
touches d f (Told c k a) = false
touches d f (Loaded c v k x) = false
touches d f (Stored c v k x) = false
touches d f (Faulted c v) = false
touches d f (Poked c v e) = false
touches d f (TookFrom e p g k x) = e == d && g == f
touches d f (PutInto e p g k x) = e == d && g == f
touches d f (Missed e p w) = false
touches d f (Drained e b) = false

abbrev pub opens : (device : ℕ) → Call → Bool
opens d (Get v) = false
opens d (Free v) = false
opens d (Give v to at) = false
opens d (Open e) = e == d
opens d (Close e) = false
opens d (Regs e v) = false
opens d (Lend v e p w) = false
opens d (Recall v) = false
opens d (End w) = false

-- was a device asked to be opened
abbrev pub asked_open : (device : ℕ) → List Event → Bool
asked_open d [] = false
asked_open d (Asked c k ∷ es) = opens d k || asked_open d es
asked_open d (Told c k a ∷ es) = asked_open d es
asked_open d (Loaded c v k x ∷ es) = asked_open d es
asked_open d (Stored c v k x ∷ es) = asked_open d es
asked_open d (Faulted c v ∷ es) = asked_open d es
asked_open d (Poked c v e ∷ es) = asked_open d es
asked_open d (TookFrom e p g k x ∷ es) = asked_open d es
asked_open d (PutInto e p g k x ∷ es) = asked_open d es
asked_open d (Missed e p w ∷ es) = asked_open d es
asked_open d (Drained e b ∷ es) = asked_open d es

-- Among the events since, which follow those before: whoever had the frame then asked to lend it to the device, and before that,
-- but since, there was what first had to come.
pub record LentSince (every : Call → Bool) (start : State) (first : List Event → Bool) (d f : ℕ) (before since : List Event) : Type 0 where
  pub who : ℕ
  pub at : ℕ
  pub page : ℕ
  pub writes : Bool
  pub later : List Event
  pub earlier : List Event
  pub state : State
  pub held : Loan
  pub asked : since ≡ later ++ (Asked who (Lend at d page writes) ∷ earlier)
  pub quiet : Run every start (earlier ++ before) state Quiet
  pub owned : state.what f ≡ Of who at held
  pub first_came : T (first earlier)

-- Once done is told for a recall, no later event touches that frame under that device's number before whoever has it then asks
-- to lend it to that device; done or refused, the asking counts.
abbrev pub RecalledIsGone : Type 0
RecalledIsGone =
    (start : State) (every : Call → Bool) (e : Event) (since es : List Event) (s : State) (n : Now) (c v : ℕ) → Run every start (e ∷ (since ++ (Told c (Recall v) Done ∷ es))) s n →
    (b : Began every start c (Recall v) es) × (f : ℕ) × (d : ℕ) × (p : ℕ) × (w : Bool) × (f < b.state.frames) × ((b.state.what f ≡ Of c v (Lent d p w)) ⊎ (b.state.what f ≡ Of c v (Leaving d p w))) ×
    (T (touches d f e) → LentSince every start (λ _. true) d f (Told c (Recall v) Done ∷ es) since)

-- Once done is told for a close, no later event touches any frame under that device's number before the device is asked to be
-- opened and, after that, whoever has the frame asks to lend it to the device.
abbrev pub ClosedIsGone : Type 0
ClosedIsGone =
    (start : State) (every : Call → Bool) (e : Event) (since es : List Event) (s : State) (n : Now) (c d : ℕ) → Run every start (e ∷ (since ++ (Told c (Close d) Done ∷ es))) s n →
    (f : ℕ) → T (touches d f e) → LentSince every start (asked_open d) d f (Told c (Close d) Done ∷ es) since

-- Once done is told for an end, the same of every device that the program had.
abbrev pub EndedIsGone : Type 0
EndedIsGone =
    (start : State) (every : Call → Bool) (e : Event) (since es : List Event) (s : State) (n : Now) (c w : ℕ) → Run every start (e ∷ (since ++ (Told c (End w) Done ∷ es))) s n →
    (b : Began every start c (End w) es) × ((d f : ℕ) → T (waits_for b.state c (End w) d) → T (touches d f e) → LentSince every start (asked_open d) d f (Told c (End w) Done ∷ es) since)
