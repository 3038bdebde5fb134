-- The machine without references: what its hardware and its events are.
-- Assumes nothing.
use Rattle.std.specs.Prelude.{ℕ, Bool, List, map, length}
use Rattle.house.specs.Event.{Event}
use Rattle.house.specs.Machine.{Hw, Up, Mid, Leaf, Steps, Runs}
use Rattle.simulator.specs.declared.cached.LowerTable.{LowerTable}
use Rattle.simulator.specs.declared.cached.PageEntry.{PageEntry}
use Rattle.simulator.specs.declared.cached.UpperTable.{UpperTable}
use Rattle.simulator.specs.declared.devices.Device.{Device}
use Rattle.simulator.specs.declared.events.Event.{Event as Note}
use Rattle.simulator.specs.declared.spaces.View.{View}
use Rattle.simulator.specs.Notes.{event_of}
use Rattle.simulator.specs.Store.{mem_of, space_of, group_of, driver_of}

-- what is kept, as the machine has it: an upper table, a lower one, a page
abbrev pub up_of : UpperTable → Up
up_of u = record { dev = u.device; table = u.table }

abbrev pub mid_of : LowerTable → Mid
mid_of l = record { dev = l.device; slot = l.slot; table = l.table }

abbrev pub leaf_of : PageEntry → Leaf
leaf_of e = record { dev = e.device; page = e.page; entry = e.entry }

pub record Parts : Type 0 where
  pub frames : ℕ
  pub devices : List Device
  pub mem : List ℕ
  pub space : List View
  pub live : Bool
  pub ups : List UpperTable
  pub mids : List LowerTable
  pub leaves : List PageEntry
  pub flying : List PageEntry
  pub left : ℕ
  pub notes : List Note

abbrev pub hw_of : Parts → Hw
hw_of p =
    record { frames = p.frames; devices = length p.devices; group = group_of p.devices; driver = driver_of p.devices; mem = mem_of p.mem; space = space_of p.space; live = p.live; ups = map up_of p.ups; mids = map mid_of p.mids; leaves = map leaf_of p.leaves; flying = map leaf_of p.flying; left = p.left }

abbrev pub seen_of : Parts → List Event
seen_of p = map event_of p.notes

-- the same parts but for what was noted
abbrev pub noted : List Note → Parts → Parts
noted ns p =
    record { frames = p.frames; devices = p.devices; mem = p.mem; space = p.space; live = p.live; ups = p.ups; mids = p.mids; leaves = p.leaves; flying = p.flying; left = p.left; notes = ns }

-- devices and the unit took steps, from one to the other
abbrev pub Goes : Parts → Parts → Type 0
Goes p q = Steps (hw_of p) (seen_of p) (hw_of q) (seen_of q)

-- programs ran, too
abbrev pub Ran : Parts → Parts → Type 0
Ran p q = Runs (hw_of p) (seen_of p) (hw_of q) (seen_of q)
