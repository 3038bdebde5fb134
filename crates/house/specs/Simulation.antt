-- The simulation: whatever devices, the unit and programs do is explained, and the relation holds again after it.
-- Nothing is assumed here.
use Rattle.std.specs.Prelude.{◌≡◌, ℕ, ◌<◌, Bool, not, T, List, [], Some}
use Rattle.house.specs.declared.Call.{Call}
use Rattle.house.specs.Event.{Event}
use Rattle.house.specs.Machine.{Hw, Steps, Runs, Drains, Comes, counted, allowed}
use Rattle.house.specs.Meaning.{State, Now, Quiet, Under, Run, set_word, set_drains, told_drain}
use Rattle.house.specs.Sound.{Tables, view_of, SoundAt, Words, Shape, ShownAt, Same, Steady, Ran, is_page}

-- a program's call has come: the state has nothing drained yet, and the words that were stored meanwhile
pub record Begun (can : Call → Bool) (start : State) (t : Tables) (s : State) (h : Hw) (who : ℕ) (c : Call) (j : Hw) (gs : List Event) : Type 0 where
  pub small : who < 32
  pub word : ℕ → ℕ → ℕ
  pub run : Run can start gs (set_drains [] [] (set_word word s)) (Under who c)
  pub sound : SoundAt t (view_of s) j
  pub words : Words (view_of s) word j.mem
  pub same : Same (allowed 2048 h) j
  pub quiet : (f k : ℕ) → T (not (is_page (s.what f))) → j.mem f k ≡ h.mem f k

-- any steps of devices and the unit, at any moment
abbrev pub StepsKept : Type 0
StepsKept =
    (can : Call → Bool) (start : State) (t : Tables) (s : State) (n : Now) (h : Hw) (es : List Event) (j : Hw) (gs : List Event) →
    SoundAt t (view_of s) h → Words (view_of s) s.word h.mem → Shape s h → Run can start es s n → Steps h es j gs → Steady can start t s n h j gs

-- a drain, whatever it answers
abbrev pub DrainsKept : Type 0
DrainsKept =
    (can : Call → Bool) (start : State) (t : Tables) (s : State) (n : Now) (d : ℕ) (h : Hw) (es : List Event) (b : Bool) (j : Hw) (gs : List Event) →
    SoundAt t (view_of s) h → Words (view_of s) s.word h.mem → Shape s h → Run can start es s n → Drains d h es b j gs → Steady can start t (told_drain d b s) n (counted h) j gs

-- programs that run between calls, and the call that comes or does not
abbrev pub RunsKept : Type 0
RunsKept =
    (can : Call → Bool) (start : State) (t : Tables) (s : State) (h : Hw) (es : List Event) (j : Hw) (gs : List Event) →
    SoundAt t (view_of s) h → Words (view_of s) s.word h.mem → Shape s h → ShownAt s h.space → Run can start es s Quiet → Runs h es j gs → Ran can start t s h j gs

abbrev pub CallsKept : Type 0
CallsKept =
    (can : Call → Bool) (start : State) (t : Tables) (s : State) (h : Hw) (es : List Event) (who : ℕ) (c : Call) (j : Hw) (gs : List Event) →
    SoundAt t (view_of s) h → Words (view_of s) s.word h.mem → Shape s h → ShownAt s h.space → Run can start es s Quiet → Comes h es (Some (who, c)) j gs → Begun can start t s h who c j gs
