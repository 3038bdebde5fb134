-- What the words of one entry mean: a frame's record (two words), a place, a device, a table's frame.
-- Every definition is total: it gives a meaning to all words, also to those that nobody wrote.
use Rattle.std.specs.Prelude.{◌≡◌, ℕ, zero, suc, ◌+◌, ◌-◌, ◌*◌, ◌/◌, ◌%◌, ◌<◌, Bool, true, false, cond, ◌==◌, nat_le, Option, Some, None}
use Rattle.ledger.specs.declared.Loan.{Loan}
use Rattle.ledger.specs.declared.Loan.TheVariants.{Home, Lent, Leaving}
use Rattle.ledger.specs.declared.mapping.Mapping.{Mapping}
use Rattle.ledger.specs.declared.Which.{Which}
use Rattle.ledger.specs.declared.Which.TheVariants.{Upper, Lower}
use Rattle.ledger.specs.declared.Use.{Use}
use Rattle.ledger.specs.declared.Use.TheVariants.{House, TableOf, Idle, PageOf}
use Rattle.ledger.specs.declared.Place.{Place}
use Rattle.ledger.specs.declared.Place.TheVariants.{Nothing, Page, Registers}
use Rattle.ledger.specs.declared.Device.{Device}
use Rattle.ledger.specs.declared.Device.TheVariants.{Shut, Opened, Closing}

-- A loan's word: 0 at home; else 1, plus 1 if the device may write, plus 2 if it is leaving, plus 4 times the page, plus
-- 1,048,576 times the device.
abbrev pub bit : Bool → ℕ
bit true = 1
bit false = 0

abbrev pub mapping_word : Mapping → ℕ
mapping_word m = bit m.writes + 4 * m.page + 1048576 * m.device

abbrev pub loan_word : Loan → ℕ
loan_word Home = 0
loan_word (Lent m) = 1 + mapping_word m
loan_word (Leaving m) = 3 + mapping_word m

abbrev pub is_set : ℕ → Bool
is_set b = b == 1

abbrev pub mapping_from : ℕ → Mapping
mapping_from h = record { device = h / 1048576 % 32; page = h / 4 % 262144; writes = is_set (h % 2) }

abbrev pub loan_from : ℕ → Loan
loan_from h =
    cond (h == 0) Home
    (cond (is_set ((h - 1) / 2 % 2)) (Leaving (mapping_from (h - 1))) (Lent (mapping_from (h - 1))))

-- Which table of a device: 0 the upper one, else the slot of a lower one plus 1.
abbrev pub which_word : Which → ℕ
which_word Upper = 0
which_word (Lower i) = i + 1

abbrev pub which_from : ℕ → Which
which_from h = cond (h == 0) Upper (Lower ((h - 1) % 512))

-- A frame's record. The low word: 0 the house's, 1 a table of a device, 2 idle, 3 a page, and above these two bits the device, or the
-- place and the program; the high word: which table, or the loan.
abbrev pub low_word : Use → ℕ
low_word House = 0
low_word (TableOf d w) = 1 + 4 * d
low_word Idle = 2
low_word (PageOf c v l) = 3 + 4 * v + 4096 * c

abbrev pub high_word : Use → ℕ
high_word House = 0
high_word (TableOf d w) = which_word w
high_word Idle = 0
high_word (PageOf c v l) = loan_word l

abbrev pub use_from : ℕ → ℕ → Use
use_from low high =
    cond (low % 4 == 0) House
    (cond (low % 4 == 1) (TableOf (low / 4 % 32) (which_from high)) (cond (low % 4 == 2) Idle (PageOf (low / 4096 % 32) (low / 4 % 1024) (loan_from high))))

-- what can be packed: 32 devices and programs, 1,024 places, 512 slots, 262,144 pages of a device
abbrev pub LoanFits : Loan → Type 0
LoanFits Home = Unit {0}
LoanFits (Lent m) = (m.device < 32) × (m.page < 262144)
LoanFits (Leaving m) = (m.device < 32) × (m.page < 262144)

abbrev pub WhichFits : Which → Type 0
WhichFits Upper = Unit {0}
WhichFits (Lower i) = i < 512

abbrev pub UseFits : Use → Type 0
UseFits House = Unit {0}
UseFits (TableOf d w) = (d < 32) × WhichFits w
UseFits Idle = Unit {0}
UseFits (PageOf c v l) = (c < 32) × (v < 1024) × LoanFits l

-- two words that packing gives: nothing is lost by unpacking them
abbrev pub Canonical : ℕ → ℕ → Type 0
Canonical low high = (low_word (use_from low high) ≡ low) × (high_word (use_from low high) ≡ high)

-- A place's word: its lower 17 bits are what the place shows, and above them stands its tag. That is where the page that it shows is
-- lent or leaving: 0 at home, else 1 plus the page plus 262,144 times the device.
abbrev pub shown_in : ℕ → ℕ
shown_in x = x % 131072

abbrev pub tag_in : ℕ → ℕ
tag_in x = x / 131072

-- 1 plus the device that a word's tag names, 0 if there is no tag
abbrev pub tag_device : ℕ → ℕ
tag_device x = (tag_in x + 262143) / 262144

abbrev pub tag_at : (d p : ℕ) → ℕ
tag_at d p = 1 + p + 262144 * d

abbrev pub tag_for : Loan → ℕ
tag_for Home = 0
tag_for (Lent m) = tag_at m.device m.page
tag_for (Leaving m) = tag_at m.device m.page

-- What a place shows: 0 nothing; up to 65,536 a frame plus 1; beyond that a device's registers.
abbrev pub place_word : Place → ℕ
place_word Nothing = 0
place_word (Page f) = f + 1
place_word (Registers d) = d + 65537

abbrev pub place_from : ℕ → Place
place_from x = cond (x == 0) Nothing (cond (nat_le x 65536) (Page (x - 1)) (Registers ((x - 65537) % 32)))

abbrev pub PlaceFits : Place → Type 0
PlaceFits Nothing = Unit {0}
PlaceFits (Page f) = f < 65536
PlaceFits (Registers d) = d < 32

-- A device's state: 0 shut; else 1 plus twice the program, plus 1 if it is closing.
abbrev pub device_word : Device → ℕ
device_word Shut = 0
device_word (Opened c) = 1 + 2 * c
device_word (Closing c) = 2 + 2 * c

abbrev pub device_from : ℕ → Device
device_from x = cond (x == 0) Shut (cond (is_set ((x - 1) % 2)) (Closing ((x - 1) / 2 % 32)) (Opened ((x - 1) / 2 % 32)))

abbrev pub DeviceFits : Device → Type 0
DeviceFits Shut = Unit {0}
DeviceFits (Opened c) = c < 32
DeviceFits (Closing c) = c < 32

-- A frame that may be noted: 0 where there is none, and else the frame plus 1.
abbrev pub noted : ℕ → Option ℕ
noted zero = None
noted (suc f) = Some f

abbrev pub note_of : Option ℕ → ℕ
note_of None = 0
note_of (Some f) = f + 1

-- A number that is noted as such, as a table's frame: it is below 131,072.
abbrev pub number_from : ℕ → ℕ
number_from x = x % 131072
