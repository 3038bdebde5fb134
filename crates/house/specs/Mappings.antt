-- A page that a device has: lent to it, or on its way back.
-- Nothing is assumed here.
use Rattle.std.specs.Prelude.{◌≡◌, ℕ, suc, ◌/◌, ◌<◌, true, false, List}
use Rattle.ledger.specs.declared.Loan.{Loan}
use Rattle.ledger.specs.declared.Loan.TheVariants.{Home, Lent, Leaving}
use Rattle.ledger.specs.declared.mapping.Mapping.{Mapping}
use Rattle.ledger.specs.declared.Place.TheVariants as place
use Rattle.ledger.specs.View as ledger
use Rattle.ledger.specs.Uses.{loan_in}
use Rattle.ledger.specs.Changes.{with_loan}
use Rattle.ledger.specs.Consistent.{Consistent}
use Rattle.house.specs.declared.Answer.{Answer}
use Rattle.house.specs.declared.Answer.TheVariants.{Done, Later, No}
use Rattle.house.specs.Event.{Event}
use Rattle.house.specs.Machine.{Hw, Drains}

-- what a loan is once it is recalled
abbrev pub recalled : Loan → Loan
recalled Home = Home
recalled (Lent m) = Leaving m
recalled (Leaving m) = Leaving m

-- The page of c at u is in frame f, and lent to a device at a page of it or leaving it there; the entry of that page is in the lower
-- table t.
pub record Away (v : ledger.View) (c u f t : ℕ) (to : Mapping) : Type 0 where
  pub shown : v.place c u ≡ place.Page f
  pub loan : recalled (loan_in (v.used f)) ≡ Leaving to
  pub device : to.device < 32
  pub page : to.page < 262144
  pub table : v.low to.device (to.page / 512) ≡ suc t

-- Device d was drained once, and the answer to that decides: the page of c at u, in frame f, is home, or the room is as it was.
abbrev pub Settled : (n c u f d : ℕ) → (room room2 : List ℕ) → (h : Hw) → (es : List Event) → (j : Hw) → (gs : List Event) → Answer → Type 0
Settled n c u f d room room2 h es j gs Done = Drains d h es true j gs × Consistent n room2 × (ledger.view_of n room2 ≡ with_loan c u f Home (ledger.view_of n room))
Settled n c u f d room room2 h es j gs Later = Drains d h es false j gs × (room2 ≡ room)
Settled n c u f d room room2 h es j gs (No k) = ⊥
