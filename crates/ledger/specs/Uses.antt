-- Tests of uses, loans and devices, and what becomes of them.
use Rattle.std.specs.Prelude.{ℕ, Bool, true, false, cond, not, ◌&&◌, ◌==◌, nat_lt}
use Rattle.ledger.specs.declared.Loan.{Loan}
use Rattle.ledger.specs.declared.Loan.TheVariants.{Home, Lent, Leaving}
use Rattle.ledger.specs.declared.Which.TheVariants.{Upper, Lower}
use Rattle.ledger.specs.declared.Use.{Use}
use Rattle.ledger.specs.declared.Use.TheVariants.{House, TableOf, Idle, PageOf}
use Rattle.ledger.specs.declared.Place.{Place}
use Rattle.ledger.specs.declared.Place.TheVariants.{Nothing, Page, Registers}
use Rattle.ledger.specs.declared.Device.{Device}
use Rattle.ledger.specs.declared.Device.TheVariants.{Shut, Opened, Closing}

abbrev pub is_idle : Use → Bool
is_idle House = false
is_idle (TableOf d w) = false
is_idle Idle = true
is_idle (PageOf c v l) = false

-- the page of program c at place v
abbrev pub is_page : ℕ → ℕ → Use → Bool
is_page c v House = false
is_page c v (TableOf d w) = false
is_page c v Idle = false
is_page c v (PageOf a b l) = a == c && b == v

-- what is no page is with nobody
abbrev pub loan_in : Use → Loan
loan_in House = Home
loan_in (TableOf d w) = Home
loan_in Idle = Home
loan_in (PageOf c v l) = l

-- lent to device d at page p, or leaving it there
abbrev pub is_at : ℕ → ℕ → Loan → Bool
is_at d p Home = false
is_at d p (Lent m) = d == m.device && p == m.page
is_at d p (Leaving m) = d == m.device && p == m.page

-- lent to device d or leaving it, at any page
abbrev pub is_with : ℕ → Loan → Bool
is_with d Home = false
is_with d (Lent m) = d == m.device
is_with d (Leaving m) = d == m.device

abbrev pub is_lent : ℕ → Loan → Bool
is_lent d Home = false
is_lent d (Lent m) = d == m.device
is_lent d (Leaving m) = false

abbrev pub is_shut : Device → Bool
is_shut Shut = true
is_shut (Opened c) = false
is_shut (Closing c) = false

-- program c has the device, open or closing
abbrev pub owner_is : ℕ → Device → Bool
owner_is c Shut = false
owner_is c (Opened w) = c == w
owner_is c (Closing w) = c == w

-- a program other than c has it, open or closing
abbrev pub held_by_other : ℕ → Device → Bool
held_by_other c x = not (is_shut x) && not (owner_is c x)

-- what is lent to d is leaving it
abbrev pub leaving_from : ℕ → Loan → Loan
leaving_from d Home = Home
leaving_from d (Lent m) = cond (d == m.device) (Leaving m) (Lent m)
leaving_from d (Leaving m) = Leaving m

-- what is lent to d or leaving it is home
abbrev pub home_from : ℕ → Loan → Loan
home_from d Home = Home
home_from d (Lent m) = cond (d == m.device) Home (Lent m)
home_from d (Leaving m) = cond (d == m.device) Home (Leaving m)

-- what a recall makes of a loan: it is home once the device was forgotten, and else leaving
abbrev pub recalled_loan : (home : Bool) → Loan → Loan
recalled_loan true l = Home
recalled_loan false Home = Home
recalled_loan false (Lent m) = Leaving m
recalled_loan false (Leaving m) = Leaving m

-- what a device's closing makes of a loan: it is home once the device was forgotten, and else leaving
abbrev pub swept_loan : (home : Bool) → ℕ → Loan → Loan
swept_loan true d l = home_from d l
swept_loan false d l = leaving_from d l

abbrev pub map_loan : (Loan → Loan) → Use → Use
map_loan φ House = House
map_loan φ (TableOf d w) = TableOf d w
map_loan φ Idle = Idle
map_loan φ (PageOf c v l) = PageOf c v (φ l)

-- the loan of the page of c at v is changed
abbrev pub on_page : ℕ → ℕ → (Loan → Loan) → Use → Use
on_page c v φ House = House
on_page c v φ (TableOf d w) = TableOf d w
on_page c v φ Idle = Idle
on_page c v φ (PageOf a b l) = cond (a == c && b == v) (PageOf a b (φ l)) (PageOf a b l)

-- the tables of d are idle
abbrev pub no_table : ℕ → Use → Use
no_table d House = House
no_table d (TableOf e w) = cond (d == e) Idle (TableOf e w)
no_table d Idle = Idle
no_table d (PageOf c v l) = PageOf c v l

-- the lower table of d at slot i is idle
abbrev pub no_lower : ℕ → ℕ → Use → Use
no_lower d i House = House
no_lower d i (TableOf e Upper) = TableOf e Upper
no_lower d i (TableOf e (Lower j)) = cond (e == d && j == i) Idle (TableOf e (Lower j))
no_lower d i Idle = Idle
no_lower d i (PageOf c v l) = PageOf c v l

-- the lower tables of d are idle
abbrev pub no_lowers : ℕ → Use → Use
no_lowers d House = House
no_lowers d (TableOf e Upper) = TableOf e Upper
no_lowers d (TableOf e (Lower j)) = cond (e == d) Idle (TableOf e (Lower j))
no_lowers d Idle = Idle
no_lowers d (PageOf c v l) = PageOf c v l

-- the page of c at v is idle
abbrev pub no_page : ℕ → ℕ → Use → Use
no_page c v House = House
no_page c v (TableOf d w) = TableOf d w
no_page c v Idle = Idle
no_page c v (PageOf a b l) = cond (a == c && b == v) Idle (PageOf a b l)

-- the pages of c at places below k are idle
abbrev pub not_below : ℕ → ℕ → Use → Use
not_below c k House = House
not_below c k (TableOf d w) = TableOf d w
not_below c k Idle = Idle
not_below c k (PageOf a b l) = cond (a == c && nat_lt b k) Idle (PageOf a b l)

-- the pages of c are idle
abbrev pub not_of : ℕ → Use → Use
not_of c House = House
not_of c (TableOf d w) = TableOf d w
not_of c Idle = Idle
not_of c (PageOf a b l) = cond (c == a) Idle (PageOf a b l)

abbrev pub shows_any : Place → Bool
shows_any Nothing = false
shows_any (Page f) = true
shows_any (Registers d) = true

abbrev pub shows_registers : ℕ → Place → Bool
shows_registers d Nothing = false
shows_registers d (Page f) = false
shows_registers d (Registers e) = e == d

-- the registers of d are not shown
abbrev pub no_registers : ℕ → Place → Place
no_registers d Nothing = Nothing
no_registers d (Page f) = Page f
no_registers d (Registers e) = cond (e == d) Nothing (Registers e)

-- the loan of the page that a place shows
abbrev pub loan_shown : (ℕ → Use) → Place → Loan
loan_shown used Nothing = Home
loan_shown used (Page f) = loan_in (used f)
loan_shown used (Registers d) = Home
