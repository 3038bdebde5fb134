-- Rows of what is asked and done with what must come of each, played by the meaning on a machine of 64 frames; one table.
-- Assumes nothing.
use Rattle.std.specs.Prelude.{ℕ, zero, suc, Bool, true, false, cond, not, ◌&&◌, ◌||◌, T, List, [], ◌∷◌, ◌++◌, ◌==◌, nat_eq}
use Rattle.house.specs.declared.Call.{Call}
use Rattle.house.specs.declared.Call.TheVariants.{Get, Free, Open, Close, Lend, Recall, End}
use Rattle.house.specs.declared.Answer.{Answer}
use Rattle.house.specs.declared.Answer.TheVariants.{Done, Later, No}
use Rattle.house.specs.Event.{Event, Asked, Told, Loaded, Stored, TookFrom, PutInto, Missed, Drained}
use Rattle.house.specs.Meaning.{Use, House, TableOf, Idle, Of, State, every, any, first, loan_of, is_lent, reaches, has, frame_of, idle, full, why, set_word, set_drains, Out, acts, takes_frame, excused, may_tell, told_drain, all, at_start, Explained}

-- A step, and what must come of it. A call with what drains say during it, in their order; a store, a load; noughts in all words of
-- one's pages at 0 and on, so many; a device's write, read and miss; nobody has a page, and no device a table.
pub data Step : Type 0 where
  Asks : (who : ℕ) → Call → (drains : List (ℕ × Bool)) → Answer → Step
  Stores Loads : (who v word x : ℕ) → Step
  Blank : (who n : ℕ) → Step
  Puts Takes : (d p word x : ℕ) → Step
  Misses : (d p : ℕ) → (writes : Bool) → Step
  AllIdle : Step

-- what came of a step: was it what must come, the state then, the events, the latest first
pub record Played : Type 0 where
  pub fits : Bool
  pub state : State
  pub events : List Event

abbrev pub same : Answer → Answer → Bool
same Done Done = true
same Done Later = false
same Done (No j) = false
same Later Done = false
same Later Later = true
same Later (No j) = false
same (No i) Done = false
same (No i) Later = false
same (No i) (No j) = i == j

unfoldable pub drained_by : List (ℕ × Bool) → State → State
drained_by [] s = s
drained_by (d ∷ ds) s = drained_by ds (told_drain d.0 d.1 s)

unfoldable pub drain_events : List (ℕ × Bool) → List Event → List Event
drain_events [] es = es
drain_events (d ∷ ds) es = drain_events ds (Drained d.0 d.1 ∷ es)

-- a call that takes effect: an idle frame is picked, the drains excuse a later, and the answer may be told
unfoldable pub taken : State → ℕ → Call → (frame : ℕ) → Answer → Out → Bool
taken u c k f a o = (not (takes_frame u k) || idle u f) && (excused u c k && (same a o.answer && may_tell o.state c k a))

unfoldable pub asked : (State → ℕ) → State → ℕ → Call → List (ℕ × Bool) → Answer → Played
asked pick s c k ds a =
    let u : State = drained_by ds (set_drains [] [] s) in
    let es : List Event = Told c k a ∷ drain_events ds (Asked c k ∷ []) in
    let f : ℕ = pick u in
    let o : Out = acts f u c k in
    cond (why u c k == 0) (record { fits = taken u c k f a o; state = o.state; events = es }) (record { fits = same a (No (why u c k)); state = u; events = es })

-- every word of a page, one by one
unfoldable pub loaded_all : ℕ → (who v : ℕ) → List Event
loaded_all zero c v = []
loaded_all (suc n) c v = Loaded c v n 0 ∷ loaded_all n c v

unfoldable pub loaded_pages : ℕ → (who : ℕ) → List Event
loaded_pages zero c = []
loaded_pages (suc n) c = loaded_all 512 c n ++ loaded_pages n c

abbrev pub is_whose : ℕ → Use → Bool
is_whose c House = false
is_whose c (TableOf d) = false
is_whose c Idle = false
is_whose c (Of w v l) = c == w

unfoldable pub blank : (ℕ → ℕ) → Bool
blank m = every 512 (λ (k : ℕ). nat_eq (m k) 0)

-- the frame that a device finds at a page
abbrev pub found : State → (d p : ℕ) → (writes : Bool) → ℕ
found s d p w = first s.frames (λ (f : ℕ). reaches d p w (loan_of (s.what f)))

abbrev pub finds : State → (d p : ℕ) → (writes : Bool) → Bool
finds s d p w = any s.frames (λ (f : ℕ). reaches d p w (loan_of (s.what f)))

abbrev pub in_use : Use → Bool
in_use House = false
in_use (TableOf d) = true
in_use Idle = false
in_use (Of c v l) = true

unfoldable pub played : (State → ℕ) → State → Step → Played
played pick s (Asks c k ds a) = asked pick s c k ds a
played pick s (Stores c v k x) = record { fits = has s c v; state = set_word (λ g j. cond (g == frame_of s c v && j == k) x (s.word g j)) s; events = Stored c v k x ∷ [] }
played pick s (Loads c v k x) = record { fits = has s c v && (s.word (frame_of s c v) k == x); state = s; events = Loaded c v k x ∷ [] }
played pick s (Blank c n) = record { fits = every n (λ (v : ℕ). has s c v) && not (any s.frames (λ (f : ℕ). is_whose c (s.what f) && not (blank (s.word f)))); state = s; events = loaded_pages n c }
played pick s (Puts d p k x) =
    let f : ℕ = found s d p true in
    record { fits = finds s d p true; state = set_word (λ e j. cond (e == f && j == k) x (s.word e j)) s; events = PutInto d p f k x ∷ [] }
played pick s (Takes d p k x) = let f : ℕ = found s d p false in record { fits = finds s d p false && (s.word f k == x); state = s; events = TookFrom d p f k x ∷ [] }
played pick s (Misses d p w) = record { fits = not (any s.frames (λ (f : ℕ). is_lent d p w (loan_of (s.what f)))); state = s; events = Missed d p w ∷ [] }
played pick s AllIdle = record { fits = not (any s.frames (λ (f : ℕ). in_use (s.what f))); state = s; events = [] }

-- a row, from the first step to the last
unfoldable pub plays : (State → ℕ) → State → List Step → Bool
plays pick s [] = true
plays pick s (x ∷ xs) = let r : Played = played pick s x in r.fits && plays pick r.state xs

unfoldable pub seen : (State → ℕ) → State → List Step → List Event
seen pick s [] = []
seen pick s (x ∷ xs) = let r : Played = played pick s x in seen pick r.state xs ++ r.events

unfoldable pub all_play : (State → ℕ) → State → List (List Step) → Bool
all_play pick s [] = true
all_play pick s (row ∷ rows) = plays pick s row && all_play pick s rows

-- Program 1 is allowed devices 0 and 1, which are in one group, program 2 device 2, in another; device 3 is the last program's.
abbrev pub group_of : ℕ → ℕ
group_of d = cond (d == 2) 1 (cond (d == 3) 2 0)

abbrev pub driver_of : ℕ → ℕ
driver_of d = cond (d == 2) 2 (cond (d == 3) 31 1)

unfoldable pub dome : State
dome = at_start 64 4 group_of driver_of 1

-- who gets pages at 0 and on, so many
unfoldable pub gets_all : (who n : ℕ) → List Step
gets_all c zero = []
gets_all c (suc n) = gets_all c n ++ (Asks c (Get n) [] Done ∷ [])

abbrev pub row_a : List Step
row_a = Asks 1 (Get 5) [] Done ∷ Asks 1 (Get 5) [] (No 3) ∷ Asks 1 (Get 1024) [] (No 1) ∷ []

abbrev pub row_b : List Step
row_b = Asks 1 (Open 0) [] Done ∷ Asks 1 (Open 2) [] (No 5) ∷ Asks 2 (Open 0) [] (No 5) ∷ []

abbrev pub row_c : List Step
row_c = row_a ++ row_b ++ (Asks 1 (Lend 5 0 700 true) [] Done ∷ Asks 1 (Free 5) [] (No 4) ∷ Asks 1 (Lend 5 0 701 true) [] (No 4) ∷ Asks 1 (Get 6) [] Done ∷ Asks 1 (Lend 6 0 700 true) [] (No 3) ∷ [])

abbrev pub row_d : List Step
row_d = row_c ++ (Puts 0 700 0 88 ∷ Loads 1 5 0 88 ∷ Takes 0 700 0 88 ∷ [])

abbrev pub row_e : List Step
row_e = row_c ++ (Asks 1 (Recall 5) ((0, false) ∷ []) Later ∷ Puts 0 700 0 88 ∷ Asks 1 (Recall 5) ((0, true) ∷ []) Done ∷ Misses 0 700 true ∷ [])

abbrev pub row_f : List Step
row_f = row_c ++ (Asks 1 (Recall 5) ((0, false) ∷ []) Later ∷ Asks 1 (Close 0) ((0, true) ∷ []) Done ∷ Asks 1 (Recall 5) [] (No 4) ∷ [])

-- 1 stores in its page and frees it, and 2 gets pages until there are no more
abbrev pub filled : List Step
filled = (Asks 1 (Get 5) [] Done ∷ Stores 1 5 0 9 ∷ Loads 1 5 0 9 ∷ Asks 1 (Free 5) [] Done ∷ []) ++ gets_all 2 63 ++ (Asks 2 (Get 63) [] (No 7) ∷ [])

abbrev pub row_g : List Step
row_g = filled ++ (Blank 2 63 ∷ [])

abbrev pub row_h : List Step
row_h = Asks 1 (Get 5) [] Done ∷ Asks 1 (Get 6) [] Done ∷ Asks 2 (End 1) [] (No 8) ∷ Asks 0 (End 1) [] Done ∷ AllIdle ∷ []

abbrev pub table : List (List Step)
table = row_a ∷ row_b ∷ row_c ∷ row_d ∷ row_e ∷ row_f ∷ row_g ∷ row_h ∷ []

-- a way to choose an idle frame, where there is one
abbrev pub Chooses : (State → ℕ) → Type 0
Chooses pick = (s : State) → T (not (full s)) → T (idle s (pick s))

-- Whichever idle frame is taken, the table plays.
abbrev pub RowsPlay : Type 0
RowsPlay = (pick : State → ℕ) → Chooses pick → T (all_play pick dome table)

-- Whatever plays is explained.
abbrev pub PlayedIsExplained : Type 0
PlayedIsExplained = (pick : State → ℕ) (start : State) (row : List Step) → T (plays pick start row) → Explained all start (seen pick start row)
