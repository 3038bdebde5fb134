use Rattle.std.proofs.Common.{◌≡◌, length}
use Rattle.dome.proofs.main.Given as goal

abbrev pub invariant-loop : goal.invariant-loop
invariant-loop l =
    (length l.memory ≡ 32768) × (length l.spaces ≡ 32768) × (length l.ups ≡ 64) × (length l.mids ≡ 64) × (length l.leaves ≡ 64) × (length l.flying ≡ 64) × (length l.log ≡ 50000) ×
    (length l.room ≡ 65664)
