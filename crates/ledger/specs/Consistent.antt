-- A consistent room. What is said of an entry is said by cases on what stands there, over the tables that it refers to.
use Rattle.std.specs.Prelude.{◌≡◌, ℕ, suc, ◌+◌, ◌*◌, ◌/◌, ◌<◌, ◌≤◌, true, false, List, length, ◌≢◌}
use Rattle.ledger.specs.declared.Loan.{Loan}
use Rattle.ledger.specs.declared.Loan.TheVariants.{Home, Lent, Leaving}
use Rattle.ledger.specs.declared.Which.TheVariants.{Upper, Lower}
use Rattle.ledger.specs.declared.Use.{Use}
use Rattle.ledger.specs.declared.Use.TheVariants.{House, TableOf, Idle, PageOf}
use Rattle.ledger.specs.declared.Place.{Place}
use Rattle.ledger.specs.declared.Place.TheVariants.{Nothing, Page, Registers}
use Rattle.ledger.specs.declared.Device.{Device}
use Rattle.ledger.specs.declared.Device.TheVariants.{Shut, Opened, Closing}
use Rattle.ledger.specs.Words.{tag_for}
use Rattle.ledger.specs.Room.{tag_of}
use Rattle.ledger.specs.View.{View, view_of}
use Rattle.ledger.specs.Uses.{is_page, loan_in, loan_shown, is_at, is_shut, owner_is}

-- The loan of a page of program c: what is lent is lent to a device that c has open, what is leaving leaves one that c has, at a
-- page whose slot has a lower table.
abbrev pub LoanOk : (ℕ → Device) → (ℕ → ℕ → ℕ) → ℕ → Loan → Type 0
LoanOk dev low c Home = Unit {0}
LoanOk dev low c (Lent m) = (dev m.device ≡ Opened c) × (m.page < 262144) × (low m.device (m.page / 512) ≢ 0)
LoanOk dev low c (Leaving m) = (owner_is c (dev m.device) ≡ true) × (m.page < 262144) × (low m.device (m.page / 512) ≢ 0)

-- Only frame 0 is the house's. A table's frame stands where its device has noted it, and a page at its place.
abbrev pub FrameOk : (ℕ → ℕ → Place) → (ℕ → Device) → (ℕ → ℕ) → (ℕ → ℕ → ℕ) → ℕ → Use → Type 0
FrameOk place dev top low f House = f ≡ 0
FrameOk place dev top low f (TableOf d Upper) = (top d ≡ f) × (is_shut (dev d) ≡ false)
FrameOk place dev top low f (TableOf d (Lower i)) = low d i ≡ suc f
FrameOk place dev top low f Idle = Unit {0}
FrameOk place dev top low f (PageOf c v l) = (place c v ≡ Page f) × LoanOk dev low c l

-- A place shows a page that is there, or the registers of a device that its program has open.
abbrev pub PlaceOk : (ℕ → Use) → (ℕ → Device) → ℕ → ℕ → Place → Type 0
PlaceOk used dev c v Nothing = Unit {0}
PlaceOk used dev c v (Page f) = is_page c v (used f) ≡ true
PlaceOk used dev c v (Registers d) = dev d ≡ Opened c

-- A shut device has no lower table, any other has an upper one.
abbrev pub DeviceOk : (ℕ → Use) → (ℕ → ℕ) → (ℕ → ℕ → ℕ) → ℕ → Device → Type 0
DeviceOk used top low d Shut = (i : ℕ) → low d i ≡ 0
DeviceOk used top low d (Opened c) = used (top d) ≡ TableOf d Upper
DeviceOk used top low d (Closing c) = used (top d) ≡ TableOf d Upper

pub record Coherent (s : View) : Type 0 where
  pub house : s.used 0 ≡ House
  pub frames : (f : ℕ) → FrameOk s.place s.device s.top s.low f (s.used f)
  pub places : (c v : ℕ) → PlaceOk s.used s.device c v (s.place c v)
  pub devices : (d : ℕ) → DeviceOk s.used s.top s.low d (s.device d)
  pub lows : (d i f : ℕ) → s.low d i ≡ suc f → s.used f ≡ TableOf d (Lower i)
  -- at each page of a device there is one frame at most, those that are leaving counted
  pub once : (f g d p : ℕ) → is_at d p (loan_in (s.used f)) ≡ true → is_at d p (loan_in (s.used g)) ≡ true → f ≡ g

-- each place's tag is that of the page that it shows
abbrev pub Tagged : (ℕ → ℕ → ℕ) → View → Type 0
Tagged t s = (c v : ℕ) → t c v ≡ tag_for (loan_shown s.used (s.place c v))

-- room r, for n frames
pub record Consistent (n : ℕ) (r : List ℕ) : Type 0 where
  pub long : 65536 + 2 * n ≤ length r
  pub some : 0 < n
  pub few : n ≤ 65536
  pub coherent : Coherent (view_of n r)
  pub tags : Tagged (tag_of r) (view_of n r)
