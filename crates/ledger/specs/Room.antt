-- Where the tables lie in the room, and what stands there. All are total on all lists of words and all numbers: past a
-- table's bounds there is nothing, every device is shut and no table is noted.
--
--     0 .. 32,767        places: 32 programs, 1,024 places each: what it shows, and where the page that it shows is lent
--     32,768 .. 49,151   lower tables: 32 devices, 512 slots each
--     49,152 .. 49,215   devices: two words each, the state and the frame of the upper table
--     49,216 .. 65,535   left over
--     65,536 ..          frames: two words each
use Rattle.std.specs.Prelude.{ℕ, ◌+◌, ◌*◌, cond, ◌&&◌, List, nat_lt, slice_index}
use Rattle.ledger.specs.declared.Use.{Use}
use Rattle.ledger.specs.declared.Place.{Place}
use Rattle.ledger.specs.declared.Place.TheVariants.{Nothing}
use Rattle.ledger.specs.declared.Device.{Device}
use Rattle.ledger.specs.declared.Device.TheVariants.{Shut}
use Rattle.ledger.specs.Words.{use_from, shown_in, tag_in, place_from, device_from, number_from}

-- what frame f is used for
unfoldable pub use_of : List ℕ → ℕ → Use
use_of r f = use_from (slice_index r (65536 + 2 * f)) (slice_index r (65536 + 2 * f + 1))

-- what place v of program c shows
unfoldable pub place_of : List ℕ → ℕ → ℕ → Place
place_of r c v = cond (nat_lt c 32 && nat_lt v 1024) (place_from (shown_in (slice_index r (c * 1024 + v)))) Nothing

-- the tag of that place
unfoldable pub tag_of : List ℕ → ℕ → ℕ → ℕ
tag_of r c v = cond (nat_lt c 32 && nat_lt v 1024) (tag_in (slice_index r (c * 1024 + v))) 0

unfoldable pub device_of : List ℕ → ℕ → Device
device_of r d = cond (nat_lt d 32) (device_from (slice_index r (49152 + 2 * d))) Shut

-- the frame of device d's upper table, 0 if none is noted
unfoldable pub top_of : List ℕ → ℕ → ℕ
top_of r d = cond (nat_lt d 32) (number_from (slice_index r (49152 + 2 * d + 1))) 0

-- the frame plus 1 of the lower table at slot i of device d, 0 if there is none
unfoldable pub low_of : List ℕ → ℕ → ℕ → ℕ
low_of r d i = cond (nat_lt d 32 && nat_lt i 512) (number_from (slice_index r (32768 + d * 512 + i))) 0
