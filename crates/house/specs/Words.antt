-- What a page holds: what was last written there since it was got.
-- Assumes nothing.
use Rattle.std.specs.Prelude.{◌≡◌, ℕ, ◌<◌, Bool, true, false, cond, not, ◌&&◌, T, ◌⊎◌, List, [], ◌∷◌, ◌++◌, ◌==◌}
use Rattle.house.specs.declared.Call.{Call}
use Rattle.house.specs.declared.Call.TheVariants.{Get, Free, Give, Open, Close, Regs, Lend, Recall, End}
use Rattle.house.specs.declared.Answer.{Answer}
use Rattle.house.specs.Event.{Event, Asked, Told, Loaded, Stored, Faulted, Poked, TookFrom, PutInto, Missed, Drained}
use Rattle.house.specs.Machine.{Hw}
use Rattle.house.specs.Meaning.{Home, Lent, Leaving, Use, House, TableOf, Idle, Of, State, is_of, has, frame_of, Now, Quiet, Run}
use Rattle.house.specs.Promise.{start_of}

-- an event, and the state at which it happened
pub record Moment : Type 0 where
  pub at : State
  pub event : Event

-- a row of them, the latest first
abbrev pub events : List Moment → List Event
events [] = []
events (m ∷ ms) = m.event ∷ events ms

-- each state explains the events before it
abbrev pub Explains : (Call → Bool) → State → List Moment → Type 0
Explains every start [] = Unit {0}
Explains every start (m ∷ ms) = Explains every start ms × ((n : Now) × Run every start (events ms) m.at n)

abbrev pub is_page : Use → Bool
is_page House = false
is_page (TableOf d) = false
is_page Idle = false
is_page (Of c v l) = true

-- what an event leaves at a word of a frame that held old: x if whoever has it stored x, or a device put x there
abbrev pub leaves : State → Event → (f k old : ℕ) → ℕ
leaves t (Asked c i) f k old = old
leaves t (Told c i a) f k old = old
leaves t (Loaded c v j x) f k old = old
leaves t (Stored c v j x) f k old = cond (is_of c v (t.what f) && k == j) x old
leaves t (Faulted c v) f k old = old
leaves t (Poked c v d) f k old = old
leaves t (TookFrom d p g j x) f k old = old
leaves t (PutInto d p g j x) f k old = cond (f == g && k == j) x old
leaves t (Missed d p w) f k old = old
leaves t (Drained d b) f k old = old

-- what was last written to a word of a frame, nought if nothing was since it became a page; s: the state after the row
abbrev pub last_written : List Moment → State → (f k : ℕ) → ℕ
last_written [] s f k = 0
last_written (m ∷ ms) s f k = cond (not (is_page (m.at.what f)) && is_page (s.what f)) 0 (leaves m.at m.event f k (last_written ms m.at f k))

-- what is loaded and taken is what was last written there; a store is to a page of one's own, and a device's write to a page that is
-- lent to it to be written, or leaving such a loan
abbrev pub Tells : List Moment → State → Event → Type 0
Tells ms t (Asked c i) = Unit {0}
Tells ms t (Told c i a) = Unit {0}
Tells ms t (Loaded c v k x) = T (has t c v) × (x ≡ last_written ms t (frame_of t c v) k)
Tells ms t (Stored c v k x) = T (has t c v)
Tells ms t (Faulted c v) = Unit {0}
Tells ms t (Poked c v d) = Unit {0}
Tells ms t (TookFrom d p f k x) = x ≡ last_written ms t f k
Tells ms t (PutInto d p f k x) = (c : ℕ) × (v : ℕ) × ((t.what f ≡ Of c v (Lent d p true)) ⊎ (t.what f ≡ Of c v (Leaving d p true)))
Tells ms t (Missed d p w) = Unit {0}
Tells ms t (Drained d b) = Unit {0}

abbrev pub Faithful : List Moment → Type 0
Faithful [] = Unit {0}
Faithful (m ∷ ms) = Faithful ms × Tells ms m.at m.event

-- What a program loads from its page, and what a device takes from a page, is what was last stored there by whoever had it, or put
-- there by a device to which it was lent to be written, or which it was leaving, and nought if nothing was since it was got.
abbrev pub HoldsLastWritten : Type 0
HoldsLastWritten =
    (start : State) (h : Hw) → start ≡ start_of h → (every : Call → Bool) (es : List Event) (s : State) (n : Now) → Run every start es s n →
    (row : List Moment) × (events row ≡ es) × Explains every start row × Faithful row × ((f k : ℕ) → f < s.frames → T (is_page (s.what f)) → s.word f k ≡ last_written row s f k)

-- Whatever event comes, a word of a page that is home then is as it was, or its owner stored it.
abbrev pub HomeIsItsOwners : Type 0
HomeIsItsOwners =
    (start : State) (every : Call → Bool) (es : List Event) (e : Event) (s : State) (n : Now) → Run every start (e ∷ es) s n →
    (t : State) × (m : Now) × Run every start es t m × ((f c v j : ℕ) → t.what f ≡ Of c v Home → (s.word f j ≡ t.word f j) ⊎ (e ≡ Stored c v j (s.word f j)))

-- a call of c, or of anybody, by which the page of c at v may come to be elsewhere
abbrev pub moves : (c v : ℕ) → (who : ℕ) → Call → Bool
moves c v who (Get u) = false
moves c v who (Free u) = who == c && u == v
moves c v who (Give u to at) = who == c && u == v
moves c v who (Open d) = false
moves c v who (Close d) = false
moves c v who (Regs d u) = false
moves c v who (Lend u d p w) = who == c && u == v
moves c v who (Recall u) = false
moves c v who (End w) = w == c

-- no such call is asked
abbrev pub rests : (c v : ℕ) → List Event → Bool
rests c v [] = true
rests c v (Asked who k ∷ es) = not (moves c v who k) && rests c v es
rests c v (Told who k a ∷ es) = rests c v es
rests c v (Loaded who u k x ∷ es) = rests c v es
rests c v (Stored who u k x ∷ es) = rests c v es
rests c v (Faulted who u ∷ es) = rests c v es
rests c v (Poked who u d ∷ es) = rests c v es
rests c v (TookFrom d p f k x ∷ es) = rests c v es
rests c v (PutInto d p f k x ∷ es) = rests c v es
rests c v (Missed d p w ∷ es) = rests c v es
rests c v (Drained d b ∷ es) = rests c v es

-- a word after the stores of c at v
abbrev pub stored_by : (c v : ℕ) → List Event → (ℕ → ℕ) → ℕ → ℕ
stored_by c v [] m = m
stored_by c v (Asked who k ∷ es) m = stored_by c v es m
stored_by c v (Told who k a ∷ es) m = stored_by c v es m
stored_by c v (Loaded who u k x ∷ es) m = stored_by c v es m
stored_by c v (Stored who u k x ∷ es) m = λ j. cond (who == c && u == v && j == k) x (stored_by c v es m j)
stored_by c v (Faulted who u ∷ es) m = stored_by c v es m
stored_by c v (Poked who u d ∷ es) m = stored_by c v es m
stored_by c v (TookFrom d p f k x ∷ es) m = stored_by c v es m
stored_by c v (PutInto d p f k x ∷ es) m = stored_by c v es m
stored_by c v (Missed d p w ∷ es) m = stored_by c v es m
stored_by c v (Drained d b ∷ es) m = stored_by c v es m

-- A page that is home when an answer is told stays home, and holds what its owner stores there and else what it held, as long as
-- its owner does not ask to free, give or lend it and nobody asks to end its owner.
abbrev pub HomeStays : Type 0
HomeStays =
    (start : State) (h : Hw) → start ≡ start_of h → (every : Call → Bool) (since es : List Event) (s : State) (n : Now) (who : ℕ) (k : Call) (a : Answer) → Run every start (since ++ (Told who k a ∷ es)) s n →
    (t : State) × Run every start (Told who k a ∷ es) t Quiet ×
    ((f c v : ℕ) → f < t.frames → t.what f ≡ Of c v Home → T (rests c v since) → (s.what f ≡ Of c v Home) × ((j : ℕ) → s.word f j ≡ stored_by c v since (t.word f) j))
