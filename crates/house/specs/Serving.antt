-- What holds between calls, as a call begins, and within one.
-- Nothing is assumed here.
use Rattle.std.specs.Prelude.{◌≡◌, ℕ, suc, ◌<◌, ◌≤◌, Bool, false, cond, T, List, []}
use Rattle.ledger.specs.declared.Device.TheVariants as device
use Rattle.ledger.specs.View as ledger
use Rattle.ledger.specs.declared.room.Room.{Room}
use Rattle.ledger.specs.Consistent.{Consistent}
use Rattle.house.specs.declared.Call.{Call}
use Rattle.house.specs.Event.{Event}
use Rattle.house.specs.Machine.{Hw, Nothing, Forgotten}
use Rattle.house.specs.Meaning.{State, is_in, Now, Under, Run}
use Rattle.house.specs.Promise.{can, start_of}
use Rattle.house.specs.Sound.{view_of, SoundAt, Words, Shape}
use Rattle.house.specs.Kept.{Kept, tables_in, shown_meant}

-- a machine that the keeper can serve
pub record Fitting (frames devices : ℕ) (group driver : ℕ → ℕ) : Type 0 where
  pub least : 64 ≤ frames
  pub most : frames ≤ 65536
  pub few : devices ≤ 32
  pub groups : (d : ℕ) → group d < 32
  pub drivers : (d : ℕ) → driver d < 32

abbrev pub Fits : Hw → Type 0
Fits h = Fitting h.frames h.devices h.group h.driver

-- How far a call has come: devices whose upper table is out of frame 0 already, places that show nothing already, and the
-- devices whose drain said yes, or no, in this call.
pub record Progress : Type 0 where
  pub cut : ℕ → Bool
  pub hidden : ℕ → ℕ → Bool
  pub yeses : List ℕ
  pub noes : List ℕ

abbrev pub nothing_cut : List ℕ → List ℕ → Progress
nothing_cut a b = record { cut = λ d. false; hidden = λ c u. false; yeses = a; noes = b }

-- Some state explains all that has happened, and the room's view and the hardware are as it says, but for what the call under way
-- has cut or hidden already.
pub record Holds (v : ledger.View) (p : Progress) (n : Now) (h : Hw) (es : List Event) : Type 0 where
  pub fits : Fits h
  pub state : State
  pub run : Run can (start_of h) es state n
  pub shape : Shape state h
  pub drained_are : state.drained ≡ p.yeses
  pub undrained_are : state.undrained ≡ p.noes
  pub kept : Kept v state
  pub sound : SoundAt (tables_in v) (view_of state) h
  pub words : Words (view_of state) state.word h.mem
  pub live : T h.live
  pub shown : (c u : ℕ) → c < 32 → u < 1024 → h.space c u ≡ cond (p.hidden c u) Nothing (shown_meant (v.place c u))
  pub roots : (d c : ℕ) → v.device d ≡ device.Opened c → h.mem 0 d ≡ cond (p.cut d) 0 (suc (v.top d))
  pub severed : (d : ℕ) → T (p.cut d) → h.mem 0 d ≡ 0
  pub forgot : (d : ℕ) → T (p.cut d) → T (is_in d p.yeses) → Forgotten d h

-- between calls
pub record Keeps (room : List ℕ) (n : Now) (h : Hw) (es : List Event) : Type 0 where
  pub tidy : Consistent h.frames room
  pub yeses : List ℕ
  pub noes : List ℕ
  pub holds : Holds (ledger.view_of h.frames room) (nothing_cut yeses noes) n h es

-- as a call begins: no device was drained yet
pub record Begins (room : List ℕ) (who : ℕ) (c : Call) (h : Hw) (es : List Event) : Type 0 where
  pub tidy : Consistent h.frames room
  pub program : who < 32
  pub holds : Holds (ledger.view_of h.frames room) (nothing_cut [] []) (Under who c) h es

-- the same where the room is open, for the machine's frames
pub record BeginsIn (room : Room) (who : ℕ) (c : Call) (h : Hw) (es : List Event) : Type 0 where
  pub frames : room.frames ≡ h.frames
  pub begins : Begins room.words.now who c h es

-- between calls, in the same lent words as before
pub record KeepsIn (before after : Room) (n : Now) (h : Hw) (es : List Event) : Type 0 where
  pub lender : after.words.ghost_name ≡ before.words.ghost_name
  pub keeps : Keeps after.words.now n h es
