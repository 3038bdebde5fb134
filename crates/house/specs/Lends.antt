-- When a page may be lent to a device, and where its entry goes.
-- Nothing is assumed here.
use Rattle.std.specs.Prelude.{◌≡◌, ℕ, suc, ◌/◌, ◌<◌, true, List, ◌≢◌}
use Rattle.ledger.specs.declared.Loan.TheVariants.{Home}
use Rattle.ledger.specs.declared.Use.TheVariants.{Idle, PageOf}
use Rattle.ledger.specs.declared.Place.TheVariants.{Page}
use Rattle.ledger.specs.declared.Device.TheVariants.{Opened}
use Rattle.ledger.specs.Room.{use_of, low_of}
use Rattle.ledger.specs.View as ledger
use Rattle.ledger.specs.Uses.{is_at, loan_in}
use Rattle.house.specs.declared.loans.LowerTable.{LowerTable}
use Rattle.house.specs.declared.loans.LowerTable.TheVariants.{There, Missing}

-- no frame is lent to device d at page p, or leaving it there
abbrev pub Untaken : ledger.View → ℕ → ℕ → Type 0
Untaken v d p = (g : ℕ) → is_at d p (loan_in (v.used g)) ≢ true

-- The page of c at u, in frame f, may be lent to device d, one of n, at its page p.
pub record Lendable (v : ledger.View) (n c u f d p : ℕ) : Type 0 where
  pub place : u < 1024
  pub device : d < n
  pub page : p < 262144
  pub shown : v.place c u ≡ Page f
  pub home : v.used f ≡ PageOf c u Home
  pub untaken : Untaken v d p
  pub opened : v.device d ≡ Opened c

-- the lower table for page p of device d, or an idle frame, one of n, that can become it
abbrev pub Tabled : List ℕ → ℕ → ℕ → ℕ → LowerTable → Type 0
Tabled r n d p (There t) = low_of r d (p / 512) ≡ suc t
Tabled r n d p (Missing x) = (low_of r d (p / 512) ≡ 0) × (x.frame < n) × (use_of r x.frame ≡ Idle)
