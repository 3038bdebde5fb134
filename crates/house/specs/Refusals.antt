-- The numbers of refusals, and what each says of the room when a call is refused by it: the first that applies.
-- Nothing is assumed here.
use Rattle.std.specs.Prelude.{◌≡◌, ℕ, ◌/◌, ◌<◌, ◌≤◌, true, false, ◌⊎◌, Ok, Err, Result, ◌≢◌}
use Rattle.ledger.specs.declared.Loan.TheVariants as loan
use Rattle.ledger.specs.declared.Use.TheVariants as used
use Rattle.ledger.specs.declared.Place.{Place}
use Rattle.ledger.specs.declared.Place.TheVariants as place
use Rattle.ledger.specs.declared.Device.{Device}
use Rattle.ledger.specs.declared.Device.TheVariants as device
use Rattle.ledger.specs.View as ledger
use Rattle.ledger.specs.Uses.{loan_in, held_by_other, is_at, owner_is}
use Rattle.house.specs.Lends.{Untaken, Lendable}
use Rattle.house.specs.declared.Answer.{Answer}
use Rattle.house.specs.declared.Answer.TheVariants.{Done, Later, No}
use Rattle.house.specs.declared.refusals.Refusal.{Refusal}
use Rattle.house.specs.declared.refusals.Refusal.TheVariants.{OutOfRange, NoPage, Occupied, WrongLoan, NotYours, Held, NoFrame, NotPermitted, NotBuilt}

abbrev pub number_of : Refusal → ℕ
number_of OutOfRange = 1
number_of NoPage = 2
number_of Occupied = 3
number_of WrongLoan = 4
number_of NotYours = 5
number_of Held = 6
number_of NoFrame = 7
number_of NotPermitted = 8
number_of NotBuilt = 9

-- what a program is told
abbrev pub answer_of : Result Answer Refusal → Answer
answer_of (Ok a) = a
answer_of (Err e) = No (number_of e)

-- what is so if the call is refused
abbrev pub IfRefused : Result Answer Refusal → Type 0 → Type 0
IfRefused (Ok a) P = Unit {0}
IfRefused (Err e) P = P

abbrev pub IfNo : Answer → Type 0 → Type 0
IfNo Done P = Unit {0}
IfNo Later P = Unit {0}
IfNo (No k) P = P

-- a refusal is an error, and no answer
abbrev pub NeverNo : Result Answer Refusal → Type 0
NeverNo (Ok a) = IfNo a ⊥
NeverNo (Err e) = Unit {0}

-- c asks for a page at u; v is what the room says of n frames
abbrev pub GetRefused : ledger.View → ℕ → ℕ → ℕ → Refusal → Type 0
GetRefused v n c u OutOfRange = 1024 ≤ u
GetRefused v n c u NoPage = ⊥
GetRefused v n c u Occupied = (u < 1024) × (v.place c u ≢ place.Nothing)
GetRefused v n c u WrongLoan = ⊥
GetRefused v n c u NotYours = ⊥
GetRefused v n c u Held = ⊥
GetRefused v n c u NoFrame = (u < 1024) × (v.place c u ≡ place.Nothing) × ((f : ℕ) → f < n → v.used f ≢ used.Idle)
GetRefused v n c u NotPermitted = ⊥
GetRefused v n c u NotBuilt = ⊥

-- c gives up its page at u
abbrev pub FreeRefused : ledger.View → ℕ → ℕ → Refusal → Type 0
FreeRefused v c u OutOfRange = 1024 ≤ u
FreeRefused v c u NoPage = (u < 1024) × ((f : ℕ) → v.place c u ≢ place.Page f)
FreeRefused v c u Occupied = ⊥
FreeRefused v c u WrongLoan = (u < 1024) × ((f : ℕ) × (v.place c u ≡ place.Page f) × (loan_in (v.used f) ≢ loan.Home))
FreeRefused v c u NotYours = ⊥
FreeRefused v c u Held = ⊥
FreeRefused v c u NoFrame = ⊥
FreeRefused v c u NotPermitted = ⊥
FreeRefused v c u NotBuilt = ⊥

-- of m devices in these groups, one of d's group is held by another program than c
abbrev pub GroupHeld : (ℕ → Device) → ℕ → (ℕ → ℕ) → ℕ → ℕ → Type 0
GroupHeld dev m group c d = (e : ℕ) × (e < m) × (group e ≡ group d) × (held_by_other c (dev e) ≡ true)

abbrev pub GroupFree : (ℕ → Device) → ℕ → (ℕ → ℕ) → ℕ → ℕ → Type 0
GroupFree dev m group c d = (e : ℕ) → e < m → group e ≡ group d → held_by_other c (dev e) ≢ true

-- c opens device d of a machine of n frames and m devices
abbrev pub OpenRefused : ledger.View → ℕ → ℕ → (ℕ → ℕ) → (ℕ → ℕ) → ℕ → ℕ → Refusal → Type 0
OpenRefused v n m group driver c d OutOfRange = m ≤ d
OpenRefused v n m group driver c d NoPage = ⊥
OpenRefused v n m group driver c d Occupied = ⊥
OpenRefused v n m group driver c d WrongLoan = ⊥
OpenRefused v n m group driver c d NotYours = (d < m) × (driver d ≢ c)
OpenRefused v n m group driver c d Held = (d < m) × (driver d ≡ c) × ((v.device d ≢ device.Shut) ⊎ GroupHeld v.device m group c d)
OpenRefused v n m group driver c d NoFrame = (d < m) × (driver d ≡ c) × (v.device d ≡ device.Shut) × GroupFree v.device m group c d × ((f : ℕ) → f < n → v.used f ≢ used.Idle)
OpenRefused v n m group driver c d NotPermitted = ⊥
OpenRefused v n m group driver c d NotBuilt = ⊥

-- the place u of c is to show the registers of device d, of m
abbrev pub RegsRefused : (ℕ → ℕ → Place) → (ℕ → Device) → ℕ → ℕ → ℕ → ℕ → Refusal → Type 0
RegsRefused shown dev m c d u OutOfRange = (m ≤ d) ⊎ (1024 ≤ u)
RegsRefused shown dev m c d u NoPage = ⊥
RegsRefused shown dev m c d u Occupied = (d < m) × (u < 1024) × (shown c u ≢ place.Nothing)
RegsRefused shown dev m c d u WrongLoan = ⊥
RegsRefused shown dev m c d u NotYours = (d < m) × (u < 1024) × (shown c u ≡ place.Nothing) × (dev d ≢ device.Opened c)
RegsRefused shown dev m c d u Held = ⊥
RegsRefused shown dev m c d u NoFrame = ⊥
RegsRefused shown dev m c d u NotPermitted = ⊥
RegsRefused shown dev m c d u NotBuilt = ⊥

-- c gives its page at u to a, at b
abbrev pub GiveRefused : ledger.View → ℕ → ℕ → ℕ → ℕ → Refusal → Type 0
GiveRefused v c u a b OutOfRange = (1024 ≤ u) ⊎ ((32 ≤ a) ⊎ (1024 ≤ b))
GiveRefused v c u a b NoPage = (u < 1024) × (a < 32) × (b < 1024) × ((f : ℕ) → v.place c u ≢ place.Page f)
GiveRefused v c u a b Occupied = (u < 1024) × (a < 32) × (b < 1024) × ((f : ℕ) × (v.place c u ≡ place.Page f)) × (v.place a b ≢ place.Nothing)
GiveRefused v c u a b WrongLoan = (u < 1024) × (a < 32) × (b < 1024) × (v.place a b ≡ place.Nothing) × ((f : ℕ) × (v.place c u ≡ place.Page f) × (loan_in (v.used f) ≢ loan.Home))
GiveRefused v c u a b NotYours = ⊥
GiveRefused v c u a b Held = ⊥
GiveRefused v c u a b NoFrame = ⊥
GiveRefused v c u a b NotPermitted = ⊥
GiveRefused v c u a b NotBuilt = ⊥

-- c recalls its page at u
abbrev pub RecallRefused : ledger.View → ℕ → ℕ → Refusal → Type 0
RecallRefused v c u OutOfRange = 1024 ≤ u
RecallRefused v c u NoPage = (u < 1024) × ((f : ℕ) → v.place c u ≢ place.Page f)
RecallRefused v c u Occupied = ⊥
RecallRefused v c u WrongLoan = (u < 1024) × ((f : ℕ) × (v.place c u ≡ place.Page f) × (loan_in (v.used f) ≡ loan.Home))
RecallRefused v c u NotYours = ⊥
RecallRefused v c u Held = ⊥
RecallRefused v c u NoFrame = ⊥
RecallRefused v c u NotPermitted = ⊥
RecallRefused v c u NotBuilt = ⊥

-- c lends its page at u to device d, one of m, at its page p; v is what the room says of n frames
abbrev pub LendRefused : ledger.View → ℕ → ℕ → ℕ → ℕ → ℕ → ℕ → Refusal → Type 0
LendRefused v n m c u d p OutOfRange = u < 1024 → d < m → p < 262144 → ⊥
LendRefused v n m c u d p NoPage = (u < 1024) × (d < m) × (p < 262144) × ((f : ℕ) → v.place c u ≢ place.Page f)
LendRefused v n m c u d p Occupied = (u < 1024) × (d < m) × (p < 262144) × ((f : ℕ) × (v.place c u ≡ place.Page f)) × ((g : ℕ) × (is_at d p (loan_in (v.used g)) ≡ true))
LendRefused v n m c u d p WrongLoan = (u < 1024) × (d < m) × (p < 262144) × ((f : ℕ) × (v.place c u ≡ place.Page f) × (loan_in (v.used f) ≢ loan.Home)) × Untaken v d p
LendRefused v n m c u d p NotYours = (u < 1024) × (d < m) × (p < 262144) × ((f : ℕ) × (v.place c u ≡ place.Page f) × (v.used f ≡ used.PageOf c u loan.Home)) × Untaken v d p × (v.device d ≢ device.Opened c)
LendRefused v n m c u d p Held = ⊥
LendRefused v n m c u d p NoFrame = ((f : ℕ) × Lendable v m c u f d p) × (v.low d (p / 512) ≡ 0) × ((f : ℕ) → f < n → v.used f ≢ used.Idle)
LendRefused v n m c u d p NotPermitted = ⊥
LendRefused v n m c u d p NotBuilt = ⊥

-- c closes device d; the machine has n devices
abbrev pub CloseRefused : ledger.View → ℕ → ℕ → ℕ → Refusal → Type 0
CloseRefused v n c d OutOfRange = n ≤ d
CloseRefused v n c d NoPage = ⊥
CloseRefused v n c d Occupied = ⊥
CloseRefused v n c d WrongLoan = ⊥
CloseRefused v n c d NotYours = (d < n) × (owner_is c (v.device d) ≡ false)
CloseRefused v n c d Held = ⊥
CloseRefused v n c d NoFrame = ⊥
CloseRefused v n c d NotPermitted = ⊥
CloseRefused v n c d NotBuilt = ⊥

-- c ends program p
abbrev pub EndRefused : ℕ → ℕ → Refusal → Type 0
EndRefused c p OutOfRange = 32 ≤ p
EndRefused c p NoPage = ⊥
EndRefused c p Occupied = ⊥
EndRefused c p WrongLoan = ⊥
EndRefused c p NotYours = ⊥
EndRefused c p Held = ⊥
EndRefused c p NoFrame = ⊥
EndRefused c p NotPermitted = (p < 32) × (c ≢ 0)
EndRefused c p NotBuilt = ⊥
