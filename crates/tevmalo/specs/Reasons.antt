-- Why nothing is played: the number that is given, 0 where all is in range.
-- Assumes nothing.
use Rattle.std.specs.Prelude.{ℕ, zero, suc, ◌+◌, ◌/◌, ◌<◌, ◌≤◌, List}
use Rattle.simulator.specs.declared.devices.Device.{Device}
use Rattle.simulator.specs.declared.lent.Unfit.{Unfit}
use Rattle.simulator.specs.declared.lent.Unfit.TheVariants.{Frames, Spaces, Devices, Numbers, Log, Room}
use Rattle.simulator.specs.Fit.{Fit, Misfit}
use Rattle.tevmalo.specs.declared.lengths.Lengths.{Lengths}

abbrev pub number_of : Unfit → ℕ
number_of Frames = 1
number_of Devices = 2
number_of Numbers = 3
number_of Log = 4
number_of Room = 5
number_of Spaces = 7

-- the first reason that applies, 0 if none does
abbrev pub Reason : Lengths → List Device → ℕ → Type 0
Reason n ds zero = Fit n.memory 32768 ds n.log × (65536 + n.memory / 256 ≤ n.room) × (n.lines ≤ n.said)
Reason n ds (suc zero) = Misfit Frames n.memory 32768 ds n.log
Reason n ds (suc (suc zero)) = Misfit Devices n.memory 32768 ds n.log
Reason n ds (suc (suc (suc zero))) = Misfit Numbers n.memory 32768 ds n.log
Reason n ds (suc (suc (suc (suc zero)))) = Misfit Log n.memory 32768 ds n.log
Reason n ds (suc (suc (suc (suc (suc zero))))) = Fit n.memory 32768 ds n.log × (n.room < 65536 + n.memory / 256)
Reason n ds (suc (suc (suc (suc (suc (suc zero)))))) = Fit n.memory 32768 ds n.log × (65536 + n.memory / 256 ≤ n.room) × (n.said < n.lines)
Reason n ds (suc (suc (suc (suc (suc (suc (suc k))))))) = ⊥
