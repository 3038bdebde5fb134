-- What the room says, in the words of the meaning.
-- Nothing is assumed here.
use Rattle.std.specs.Prelude.{◌≡◌, ℕ, suc, ◌-◌, ◌<◌, Bool, not, ◌==◌}
use Rattle.ledger.specs.declared.Loan as loans
use Rattle.ledger.specs.declared.Loan.TheVariants as loan
use Rattle.ledger.specs.declared.Use as uses
use Rattle.ledger.specs.declared.Use.TheVariants as used
use Rattle.ledger.specs.declared.Place.{Place}
use Rattle.ledger.specs.declared.Place.TheVariants as place
use Rattle.ledger.specs.declared.Device.{Device}
use Rattle.ledger.specs.declared.Device.TheVariants as device
use Rattle.ledger.specs.View as ledger
use Rattle.house.specs.Machine.{Shown, Nothing, Frame, Registers}
use Rattle.house.specs.Meaning.{Loan, Home, Lent, Leaving, Use, House, TableOf, Idle, Of, Dev, Shut, Opened, Closing, State}
use Rattle.house.specs.Sound.{Tables}

unfoldable pub loan_meant : loans.Loan → Loan
loan_meant loan.Home = Home
loan_meant (loan.Lent m) = Lent m.device m.page m.writes
loan_meant (loan.Leaving m) = Leaving m.device m.page m.writes

unfoldable pub use_meant : uses.Use → Use
use_meant used.House = House
use_meant (used.TableOf d t) = TableOf d
use_meant used.Idle = Idle
use_meant (used.PageOf c v l) = Of c v (loan_meant l)

unfoldable pub dev_meant : Device → Dev
dev_meant device.Shut = Shut
dev_meant (device.Opened c) = Opened c
dev_meant (device.Closing c) = Closing c

-- registers as the meaning counts them: 0, or the device plus 1
unfoldable pub regs_meant : Place → ℕ
regs_meant place.Nothing = 0
regs_meant (place.Page f) = 0
regs_meant (place.Registers d) = suc d

unfoldable pub shown_meant : Place → Shown
shown_meant place.Nothing = Nothing
shown_meant (place.Page f) = Frame f
shown_meant (place.Registers d) = Registers d

abbrev pub tables_in : ledger.View → Tables
tables_in v = record { top = v.top; low = λ d i. v.low d i - 1 }

-- the room says of every frame, device, slot and place what the meaning says
pub record KeptIn (v : ledger.View) (what : ℕ → Use) (dev : ℕ → Dev) (slots : ℕ → ℕ → Bool) (regs : ℕ → ℕ → ℕ) : Type 0 where
  pub uses_are : (f : ℕ) → what f ≡ use_meant (v.used f)
  pub devs_are : (d : ℕ) → dev d ≡ dev_meant (v.device d)
  pub slots_are : (d i : ℕ) → slots d i ≡ not (v.low d i == 0)
  pub regs_are : (c u : ℕ) → regs c u ≡ regs_meant (v.place c u)

abbrev pub Kept : ledger.View → State → Type 0
Kept v s = KeptIn v s.what s.dev s.slots s.regs

-- what each place shows is what the room says of it
abbrev pub Shows : ledger.View → (ℕ → ℕ → Shown) → Type 0
Shows v space = (c u : ℕ) → c < 32 → u < 1024 → space c u ≡ shown_meant (v.place c u)
