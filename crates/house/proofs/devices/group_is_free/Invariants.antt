use Rattle.std.proofs.Common.{◌≡◌, ℕ, ◌<◌, true}
use Rattle.ledger.specs.Room.{device_of}
use Rattle.ledger.specs.Uses.{held_by_other}
use Rattle.house.proofs.devices.group_is_free.Given as goal

-- no device before e is one of the group that another program holds
abbrev pub invariant-loop-e : goal.invariant-loop-e
invariant-loop-e g l = (k : ℕ) → k < l.e → (g.M.Machine.hw l.w).group k ≡ (g.M.Machine.hw l.w).group l.d → held_by_other l.who (device_of l.room.words.now k) ≡ true → ⊥
