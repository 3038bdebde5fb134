use Rattle.std.proofs.Common.{◌≡◌, ℕ, ◌+◌, ◌*◌, ◌<◌, ◌≤◌, cond, eqb, ◌⊎◌, get_or}
use Rattle.ledger.specs.declared.Use.TheVariants.{House, Idle}
use Rattle.ledger.specs.Room.{use_of}
use Rattle.ledger.proofs.setup.clear_frames.Given as goal

abbrev pub invariant-loop-f : goal.invariant-loop-f
invariant-loop-f l =
    ((g : ℕ) → g < l.f → use_of l.words g ≡ cond (eqb g 0) House Idle) ×
    ((k : ℕ) → (k < 65536) ⊎ (65536 + 2 * l.f ≤ k) → get_or l.words k 0 ≡ get_or l.initial.words k 0)
