-- The relation between the hardware and the meaning that every step of devices and of the unit keeps, at every moment.
-- It is stated over the parts that it speaks of, so that it holds as it stands of a state with other words, or of hardware with
-- another count of asks.
-- Assumes nothing.
use Rattle.std.specs.Prelude.{◌≡◌, ℕ, suc, ◌+◌, ◌*◌, ◌/◌, ◌%◌, ◌<◌, Bool, true, false, cond, not, ◌||◌, T, ◌⊎◌, List, ◌==◌, ◌≢◌}
use mathlib.Core.List.{Memᴰ}
use Rattle.house.specs.declared.Call.{Call}
use Rattle.house.specs.Event.{Event}
use Rattle.house.specs.Machine.{Shown, Nothing, Frame, Registers, Hw, Up, Mid, Leaf, frame_in, may_write, Forgotten}
use Rattle.house.specs.Meaning.{Loan, Lent, Use, House, TableOf, Idle, Of, Dev, State, is_of, loan_of, is_home, reaches, is_shut, any, first, set_word, Now, Quiet, Run}

-- where the keeper put the page tables: the upper one of a device, and the lower one of each of its slots
pub record Tables : Type 0 where
  pub top : ℕ → ℕ
  pub low : ℕ → ℕ → ℕ

-- what the meaning says of frames and devices, words left out
pub record View : Type 0 where
  pub frames : ℕ
  pub devices : ℕ
  pub what : ℕ → Use
  pub dev : ℕ → Dev
  pub slots : ℕ → ℕ → Bool

abbrev pub view_of : State → View
view_of s = record { frames = s.frames; devices = s.devices; what = s.what; dev = s.dev; slots = s.slots }

-- a device that is open or closing
abbrev pub Held : View → ℕ → Type 0
Held v d = (d < v.devices) × T (not (is_shut (v.dev d)))

-- the entry of a lower table for a frame
abbrev pub entry_of : ℕ → Bool → ℕ
entry_of f w = cond w (suc (suc (2 * f))) (suc (2 * f))

-- an entry that the unit may go by at a page of a device: its frame is lent to that device there or leaving it, to be written
-- where the entry says so
pub record Good (v : View) (d p e : ℕ) : Type 0 where
  pub some : 0 < e
  pub frame : frame_in e < v.frames
  pub reads : T (reaches d p false (loan_of (v.what (frame_in e))))
  pub writes : T (may_write e) → T (reaches d p true (loan_of (v.what (frame_in e))))

-- what is lent is reached: the unit is live, and the walk from frame 0 finds exactly that page's entry
pub record Mapped (t : Tables) (v : View) (mem : ℕ → ℕ → ℕ) (live : Bool) (f d p : ℕ) (w : Bool) : Type 0 where
  pub started : T live
  pub held : Held v d
  pub page : p < 262144
  pub there : T (v.slots d (p / 512))
  pub root : mem 0 d ≡ suc (t.top d)
  pub entry : mem (t.low d (p / 512)) (p % 512) ≡ entry_of f w

pub record Sound (t : Tables) (v : View) (mem : ℕ → ℕ → ℕ) (live : Bool) (ups : List Up) (mids : List Mid) (leaves flying : List Leaf) : Type 0 where
  pub house : v.what 0 ≡ House
  -- frame 0 has, for each device, nothing or its upper table; before the unit is started it may hold anything
  pub root : T live → (d : ℕ) → d < v.devices → (mem 0 d ≡ 0) ⊎ ((mem 0 d ≡ suc (t.top d)) × T (not (is_shut (v.dev d))))
  pub top : (d : ℕ) → Held v d → (t.top d < v.frames) × (v.what (t.top d) ≡ TableOf d)
  -- an upper table has the lower tables of the slots that are there, and nothing else
  pub slot : (d i : ℕ) → Held v d → i < 512 → mem (t.top d) i ≡ cond (v.slots d i) (suc (t.low d i)) 0
  pub held : (d i : ℕ) → T (v.slots d i) → Held v d
  pub low : (d i : ℕ) → T (v.slots d i) → (t.low d i < v.frames) × (v.what (t.low d i) ≡ TableOf d)
  -- the tables of a device are distinct frames
  pub apart : (d i : ℕ) → T (v.slots d i) → t.low d i ≢ t.top d
  pub distinct : (d i j : ℕ) → T (v.slots d i) → T (v.slots d j) → t.low d i ≡ t.low d j → i ≡ j
  -- an entry is nothing, or good
  pub entries : (d i j : ℕ) → T (v.slots d i) → i < 512 → j < 512 → (mem (t.low d i) j ≡ 0) ⊎ Good v d (512 * i + j) (mem (t.low d i) j)
  -- what the unit keeps, and accesses under way
  pub ups_good : (u : Up) → Memᴰ u ups → Held v u.dev × (u.table ≡ t.top u.dev)
  pub mids_good : (m : Mid) → Memᴰ m mids → (m.slot < 512) × T (v.slots m.dev m.slot) × (m.table ≡ t.low m.dev m.slot)
  pub leaves_good : (l : Leaf) → Memᴰ l leaves → Good v l.dev l.page l.entry
  pub flying_good : (l : Leaf) → Memᴰ l flying → Good v l.dev l.page l.entry
  pub lent : (f c u d p : ℕ) (w : Bool) → f < v.frames → v.what f ≡ Of c u (Lent d p w) → Mapped t v mem live f d p w

-- Sound at a piece of hardware
abbrev pub SoundAt : Tables → View → Hw → Type 0
SoundAt t v h = Sound t v h.mem h.live h.ups h.mids h.leaves h.flying

-- the words of somebody's page are those in memory
abbrev pub Words : View → (ℕ → ℕ → ℕ) → (ℕ → ℕ → ℕ) → Type 0
Words v word mem = (f c u k : ℕ) (l : Loan) → f < v.frames → v.what f ≡ Of c u l → k < 512 → word f k ≡ mem f k

-- the machine's shape, which nothing changes
pub record Shaped (frames devices : ℕ) (group driver : ℕ → ℕ) (frames_h devices_h : ℕ) (group_h driver_h : ℕ → ℕ) : Type 0 where
  pub frames_are : frames ≡ frames_h
  pub devices_are : devices ≡ devices_h
  pub group_is : group ≡ group_h
  pub driver_is : driver ≡ driver_h

abbrev pub Shape : State → Hw → Type 0
Shape s h = Shaped s.frames s.devices s.group s.driver h.frames h.devices h.group h.driver

-- what no step of devices or of the unit changes
pub record Same (h j : Hw) : Type 0 where
  pub frames : j.frames ≡ h.frames
  pub devices : j.devices ≡ h.devices
  pub group : j.group ≡ h.group
  pub driver : j.driver ≡ h.driver
  pub space : j.space ≡ h.space
  pub live : j.live ≡ h.live
  pub left : j.left ≡ h.left

-- somebody's page
unfoldable pub is_page : Use → Bool
is_page House = false
is_page (TableOf d) = false
is_page Idle = false
is_page (Of c v l) = true

-- what a place of a program's space shows is what the meaning has there
unfoldable pub ShowsIn : ℕ → (ℕ → Use) → (ℕ → ℕ → ℕ) → ℕ → ℕ → Shown → Type 0
ShowsIn n what regs c v Nothing = T (not (any n (λ (f : ℕ). is_of c v (what f)) || not (regs c v == 0)))
ShowsIn n what regs c v (Frame f) = T (any n (λ (g : ℕ). is_of c v (what g))) × (first n (λ (g : ℕ). is_of c v (what g)) ≡ f) × (f < n) × T (is_of c v (what f))
ShowsIn n what regs c v (Registers d) = regs c v ≡ suc d

abbrev pub ShowsRight : State → ℕ → ℕ → Shown → Type 0
ShowsRight s c v x = ShowsIn s.frames s.what s.regs c v x

abbrev pub ShownAt : State → (ℕ → ℕ → Shown) → Type 0
ShownAt s space = (c v : ℕ) → c < 32 → v < 1024 → ShowsRight s c v (space c v)

-- What is left of a state and its hardware after any steps of devices and the unit: the same state with other words in pages
-- that devices reach, explained and sound.
pub record Steady (can : Call → Bool) (start : State) (t : Tables) (s : State) (n : Now) (h j : Hw) (gs : List Event) : Type 0 where
  pub word : ℕ → ℕ → ℕ
  pub run : Run can start gs (set_word word s) n
  pub sound : SoundAt t (view_of s) j
  pub words : Words (view_of s) word j.mem
  pub same : Same h j
  -- what no device reaches is as it was
  pub quiet : (f k : ℕ) → T (is_home (loan_of (s.what f))) → (j.mem f k ≡ h.mem f k) × (word f k ≡ s.word f k)
  -- a device that frame 0 has nothing of, once forgotten, stays forgotten
  pub forgets : (d : ℕ) → h.mem 0 d ≡ 0 → Forgotten d h → Forgotten d j

-- The same after programs have run too: owners store in their pages.
pub record Ran (can : Call → Bool) (start : State) (t : Tables) (s : State) (h j : Hw) (gs : List Event) : Type 0 where
  pub word : ℕ → ℕ → ℕ
  pub run : Run can start gs (set_word word s) Quiet
  pub sound : SoundAt t (view_of s) j
  pub words : Words (view_of s) word j.mem
  pub same : Same h j
  pub quiet : (f k : ℕ) → T (not (is_page (s.what f))) → j.mem f k ≡ h.mem f k
