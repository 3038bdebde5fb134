-- That a room is consistent can be shown in one way at most, so that a room can keep it as a fact.
use Rattle.std.specs.Prelude.{ℕ, List}
use Rattle.std.proofs.Props.{props}
use Rattle.ledger.specs.declared.Loan.{Loan}
use Rattle.ledger.specs.declared.Loan.TheVariants.{Home, Lent, Leaving}
use Rattle.ledger.specs.declared.Which.TheVariants.{Upper, Lower}
use Rattle.ledger.specs.declared.Use.{Use}
use Rattle.ledger.specs.declared.Use.TheVariants.{House, TableOf, Idle, PageOf}
use Rattle.ledger.specs.declared.Place.{Place}
use Rattle.ledger.specs.declared.Place.TheVariants.{Nothing, Page, Registers}
use Rattle.ledger.specs.declared.Device.{Device}
use Rattle.ledger.specs.declared.Device.TheVariants.{Shut, Opened, Closing}
use Rattle.ledger.specs.Consistent.{LoanOk, FrameOk, PlaceOk, DeviceOk, Consistent}

pub loan_ok_prop : (dev : ℕ → Device) (low : ℕ → ℕ → ℕ) (c : ℕ) (l : Loan) → IsProp (LoanOk dev low c l)
loan_ok_prop dev low c Home = Prim.hlevel props
loan_ok_prop dev low c (Lent m) = Prim.hlevel props
loan_ok_prop dev low c (Leaving m) = Prim.hlevel props

pub frame_ok_prop : (place : ℕ → ℕ → Place) (dev : ℕ → Device) (top : ℕ → ℕ) (low : ℕ → ℕ → ℕ) (f : ℕ) (u : Use) → IsProp (FrameOk place dev top low f u)
frame_ok_prop place dev top low f House = Prim.hlevel props
frame_ok_prop place dev top low f (TableOf d Upper) = Prim.hlevel props
frame_ok_prop place dev top low f (TableOf d (Lower i)) = Prim.hlevel props
frame_ok_prop place dev top low f Idle = Prim.hlevel props
frame_ok_prop place dev top low f (PageOf c v l) = Prim.hlevel (props, loan_ok_prop)

pub place_ok_prop : (used : ℕ → Use) (dev : ℕ → Device) (c v : ℕ) (p : Place) → IsProp (PlaceOk used dev c v p)
place_ok_prop used dev c v Nothing = Prim.hlevel props
place_ok_prop used dev c v (Page f) = Prim.hlevel props
place_ok_prop used dev c v (Registers d) = Prim.hlevel props

pub device_ok_prop : (used : ℕ → Use) (top : ℕ → ℕ) (low : ℕ → ℕ → ℕ) (d : ℕ) (x : Device) → IsProp (DeviceOk used top low d x)
device_ok_prop used top low d Shut = Prim.hlevel props
device_ok_prop used top low d (Opened c) = Prim.hlevel props
device_ok_prop used top low d (Closing c) = Prim.hlevel props

pub consistent_prop : (n : ℕ) (r : List ℕ) → IsProp (Consistent n r)
consistent_prop n r = Prim.hlevel (props, frame_ok_prop, place_ok_prop, device_ok_prop)
