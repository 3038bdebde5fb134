-- Of what is lent, what a machine can be made of.
-- Assumes nothing.
use Rattle.std.specs.Prelude.{◌≡◌, ℕ, ◌%◌, ◌<◌, ◌≤◌, ◌⊎◌, List, length, slice_index_or}
use Rattle.simulator.specs.declared.devices.Device.{Device}
use Rattle.simulator.specs.declared.lent.Unfit.{Unfit}
use Rattle.simulator.specs.declared.lent.Unfit.TheVariants.{Frames, Spaces, Devices, Numbers, Log, Room}
use Rattle.simulator.specs.Store.{no_device}

abbrev pub InRange : List Device → Type 0
InRange ds = (k : ℕ) → k < length ds → ((slice_index_or ds k no_device).group < 32) × ((slice_index_or ds k no_device).driver < 32)

abbrev pub OutOfRange : List Device → Type 0
OutOfRange ds = (k : ℕ) × (k < length ds) × ((32 ≤ (slice_index_or ds k no_device).group) ⊎ (32 ≤ (slice_index_or ds k no_device).driver))

-- m words of memory, s places of spaces, room for l events in the log
abbrev pub Fit : ℕ → ℕ → List Device → ℕ → Type 0
Fit m s ds l = (32768 ≤ m) × (m ≤ 33554432) × (m % 512 ≡ 0) × (s ≡ 32768) × (length ds ≤ 32) × InRange ds × (2050 ≤ l)

-- m words of memory make 64 to 65,536 frames
abbrev pub Framed : ℕ → Type 0
Framed m = (32768 ≤ m) × (m ≤ 33554432) × (m % 512 ≡ 0)

-- the first reason that applies
abbrev pub Misfit : Unfit → ℕ → ℕ → List Device → ℕ → Type 0
Misfit Frames m s ds l = Framed m → ⊥
Misfit Spaces m s ds l = Framed m × (s ≡ 32768 → ⊥)
Misfit Devices m s ds l = Framed m × (s ≡ 32768) × (32 < length ds)
Misfit Numbers m s ds l = Framed m × (s ≡ 32768) × (length ds ≤ 32) × OutOfRange ds
Misfit Log m s ds l = Framed m × (s ≡ 32768) × (length ds ≤ 32) × InRange ds × (l < 2050)
Misfit Room m s ds l = ⊥
