-- What the operations make of a room's view.
use Rattle.std.specs.Prelude.{◌≡◌, ℕ, suc, cond, ◌&&◌, ◌⊎◌, List, ◌==◌, nat_lt}
use Rattle.ledger.specs.declared.Loan.{Loan}
use Rattle.ledger.specs.declared.Loan.TheVariants.{Home}
use Rattle.ledger.specs.declared.Which.TheVariants.{Upper, Lower}
use Rattle.ledger.specs.declared.Use.{Use}
use Rattle.ledger.specs.declared.Use.TheVariants.{House, TableOf, Idle, PageOf}
use Rattle.ledger.specs.declared.Place.{Place}
use Rattle.ledger.specs.declared.Place.TheVariants.{Nothing, Page}
use Rattle.ledger.specs.declared.Device.TheVariants.{Shut, Opened, Closing}
use Rattle.ledger.specs.Room.{use_of, place_of}
use Rattle.ledger.specs.View.{View, with_use, with_place, with_device, with_top, with_low}
use Rattle.ledger.specs.Uses.{map_loan, leaving_from, home_from, no_table, no_lower, no_lowers, no_page, not_of, not_below, no_registers}

-- frame 0 the house's, every other idle, nothing shown, every device shut, no table
abbrev pub empty : View
empty = record { used = λ f. cond (f == 0) House Idle; place = λ c v. Nothing; device = λ d. Shut; top = λ d. 0; low = λ d i. 0 }

-- In room r the idle frame f becomes the page of c at v, which showed nothing and shows it then; or f, which is that page, becomes
-- idle, and the place shows nothing.
abbrev pub Settles : List ℕ → ℕ → ℕ → ℕ → Use → Place → Type 0
Settles r c v f used shown =
    ((used ≡ PageOf c v Home) × (shown ≡ Page f) × (use_of r f ≡ Idle) × (place_of r c v ≡ Nothing)) ⊎ ((used ≡ Idle) × (shown ≡ Nothing) × (place_of r c v ≡ Page f))

-- frame f becomes the page of c at v, and that place shows it
abbrev pub new_page : ℕ → ℕ → ℕ → View → View
new_page c v f s = with_place c v (Page f) (with_use f (PageOf c v Home) s)

-- frame f, the page of c at v, becomes idle, and the place shows nothing
abbrev pub freed_page : ℕ → ℕ → ℕ → View → View
freed_page c v f s = with_place c v Nothing (with_use f Idle s)

-- frame f, the page of c at v, becomes that of a at b
abbrev pub given_page : ℕ → ℕ → ℕ → ℕ → ℕ → View → View
given_page c v a b f s = with_place a b (Page f) (with_place c v Nothing (with_use f (PageOf a b Home) s))

-- the page of c at v, in frame f, has this loan
abbrev pub with_loan : ℕ → ℕ → ℕ → Loan → View → View
with_loan c v f l s = with_use f (PageOf c v l) s

-- c opens device d, whose upper table is frame f
abbrev pub opened_by : ℕ → ℕ → ℕ → View → View
opened_by c d f s = with_device d (Opened c) (with_top d f (with_use f (TableOf d Upper) s))

-- frame f is the lower table of d at slot i
abbrev pub lower_at : ℕ → ℕ → ℕ → View → View
lower_at d i f s = with_low d i (suc f) (with_use f (TableOf d (Lower i)) s)

-- every frame's use is changed
abbrev pub with_uses : (Use → Use) → View → View
with_uses φ s = record { used = λ f. φ (s.used f); place = s.place; device = s.device; top = s.top; low = s.low }

-- c has d closing: what was lent to it is leaving
abbrev pub closing_for : ℕ → ℕ → View → View
closing_for c d s = with_device d (Closing c) (with_uses (map_loan (leaving_from d)) s)

-- d is shut: what was lent to it or leaving it is home, its tables are idle
abbrev pub shut_device : ℕ → View → View
shut_device d s =
    record { used = λ f. no_table d (map_loan (home_from d) (s.used f)); place = s.place; device = λ e. cond (e == d) Shut (s.device e); top = λ e. cond (e == d) 0 (s.top e); low = λ e i. cond (e == d) 0 (s.low e i) }

-- slot i of d has no lower table, and if there was one it is idle
abbrev pub without_lower : ℕ → ℕ → View → View
without_lower d i s = with_low d i 0 (with_uses (no_lower d i) s)

-- no slot of d has a lower table
abbrev pub without_lowers : ℕ → View → View
without_lowers d s = record { used = λ f. no_lowers d (s.used f); place = s.place; device = s.device; top = s.top; low = λ e i. cond (e == d) 0 (s.low e i) }

-- place v of c shows nothing, and if there was a page it is idle
abbrev pub vacated : ℕ → ℕ → View → View
vacated c v s = with_place c v Nothing (with_uses (no_page c v) s)

-- the places of c show nothing, and its pages are idle
abbrev pub ended : ℕ → View → View
ended c s = record { used = λ f. not_of c (s.used f); place = λ a b. cond (a == c) Nothing (s.place a b); device = s.device; top = s.top; low = s.low }

-- place v of c shows no registers of d
abbrev pub unregistered : ℕ → ℕ → ℕ → View → View
unregistered c v d s = with_place c v (no_registers d (s.place c v)) s

-- the registers of d are shown nowhere
abbrev pub without_registers : ℕ → View → View
without_registers d s = record { used = s.used; place = λ a b. no_registers d (s.place a b); device = s.device; top = s.top; low = s.low }

-- the places of c below k show no registers of d
abbrev pub hidden_below : ℕ → ℕ → ℕ → View → View
hidden_below c d k s =
    record { used = s.used; place = λ a b. cond (a == c && nat_lt b k) (no_registers d (s.place a b)) (s.place a b); device = s.device; top = s.top; low = s.low }

-- the places of c below k show nothing, and the pages that stood there are idle
abbrev pub ended_below : ℕ → ℕ → View → View
ended_below c k s =
    record { used = λ f. not_below c k (s.used f); place = λ a b. cond (a == c && nat_lt b k) Nothing (s.place a b); device = s.device; top = s.top; low = s.low }
