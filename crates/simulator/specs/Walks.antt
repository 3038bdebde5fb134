-- The way through the tables to a page's entry.
-- Assumes nothing.
use Rattle.std.specs.Prelude.{◌≡◌, ℕ, suc, ◌/◌, ◌%◌, ◌<◌, Bool, true, T, length, Option, Some, None, Result, Ok, Err}
use Rattle.simulator.specs.declared.board.walks.Way.{Way}
use Rattle.simulator.specs.declared.refused.Refused.{Refused}
use Rattle.simulator.specs.declared.refused.Refused.TheVariants.{OutOfRange}
use Rattle.simulator.specs.Store.{mem_of}
use Rattle.simulator.specs.Parts.{Parts}
use Rattle.simulator.specs.Effects.{Same, MissedAt}

-- the entry that a page has, with the tables on the way, as they stand in memory
pub record Path (p : Parts) (d page top low entry : ℕ) : Type 0 where
  pub live : T p.live
  pub first : mem_of p.mem 0 d ≡ suc top
  pub second : mem_of p.mem top (page / 512) ≡ suc low
  pub last : mem_of p.mem low (page % 512) ≡ entry
  pub there : 0 < entry

-- a way, as the IOMMU caches it, to the page that its entry is of
pub record IsWay (p : Parts) (w : Way) : Type 0 where
  pub path : Path p w.page.device w.page.page w.upper.table w.lower.table w.page.entry
  pub upper : w.upper.device ≡ w.page.device
  pub lower : w.lower.device ≡ w.page.device
  pub slot : w.lower.slot ≡ w.page.page / 512
  pub device : w.page.device < length p.devices
  pub page : w.page.page < 262144

-- an access to word k of page g of device d, by the tables as they stand: refused, missed, or what it goes by
abbrev pub Reached : Parts → ℕ → ℕ → ℕ → Bool → Result (Option Way) Refused → Parts → Type 0
Reached p d g k w (Err e) q = Same p q × (e ≡ OutOfRange → d < length p.devices → g < 262144 → k < 512 → ⊥)
Reached p d g k w (Ok None) q = (d < length p.devices) × (g < 262144) × MissedAt p d g w (Ok true) q
Reached p d g k w (Ok (Some y)) q = (k < 512) × Same p q × IsWay q y × (y.page.device ≡ d) × (y.page.page ≡ g)
