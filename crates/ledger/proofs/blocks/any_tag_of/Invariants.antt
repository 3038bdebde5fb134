use Rattle.std.proofs.Common.{◌≡◌, ℕ, ◌+◌, ◌<◌, Decides, slice_index}
use Rattle.ledger.specs.Words.{tag_device}
use Rattle.ledger.proofs.blocks.any_tag_of.Given as goal

abbrev pub invariant-loop-k : goal.invariant-loop-k
invariant-loop-k l = Decides l.any ((i : ℕ) × (i < l.k) × (tag_device (slice_index l.words (l.first + i)) ≡ l.d + 1))
