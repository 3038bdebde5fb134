-- Memory as words, and spaces as places: what each word is, and what each place shows.
-- Assumes nothing.
use Rattle.std.specs.Prelude.{◌≡◌, ℕ, ◌+◌, ◌*◌, ◌%◌, ◌<◌, cond, List, nat_lt, slice_index, slice_index_or}
use Rattle.house.specs.Machine.{Shown, Nothing, Frame, Registers}
use Rattle.simulator.specs.declared.spaces.View.{View}
use Rattle.simulator.specs.declared.spaces.View.TheVariants.{Hidden, Page, Regs}
use Rattle.simulator.specs.declared.devices.Device.{Device}

-- a frame's words, one after the other; what isn't there is 0
abbrev pub mem_of : List ℕ → ℕ → ℕ → ℕ
mem_of ws f k = cond (nat_lt k 512) (slice_index ws (512 * f + k)) 0

abbrev pub shown_of : View → Shown
shown_of Hidden = Nothing
shown_of (Page f) = Frame f
shown_of (Regs d) = Registers d

-- 1,024 places for each program; what isn't there shows nothing
abbrev pub space_of : List View → ℕ → ℕ → Shown
space_of vs c v = cond (nat_lt c 32) (cond (nat_lt v 1024) (shown_of (slice_index_or vs (1024 * c + v) Hidden)) Nothing) Nothing

-- what is left of it where there are n frames; devices are below 32
abbrev pub within : ℕ → Shown → Shown
within n Nothing = Nothing
within n (Frame f) = cond (nat_lt f n) (Frame f) Nothing
within n (Registers d) = Registers (d % 32)

abbrev pub space_below : ℕ → List View → ℕ → ℕ → Shown
space_below n vs c v = within n (space_of vs c v)

-- what code calls a view, of n frames
abbrev pub Viewed : ℕ → View → Shown → Type 0
Viewed n Hidden s = Nothing ≡ s
Viewed n (Page f) s = (Frame f ≡ s) × (f < n)
Viewed n (Regs d) s = Registers d ≡ s

-- only pages in memory, of n frames, are shown
abbrev pub PagesBelow : ℕ → List View → Type 0
PagesBelow n vs = (k f : ℕ) → slice_index_or vs k Hidden ≡ Page f → f < n

abbrev pub no_device : Device
no_device = record { group = 0; driver = 0 }

abbrev pub group_of : List Device → ℕ → ℕ
group_of ds d = (slice_index_or ds d no_device).group % 32

abbrev pub driver_of : List Device → ℕ → ℕ
driver_of ds d = (slice_index_or ds d no_device).driver % 32
