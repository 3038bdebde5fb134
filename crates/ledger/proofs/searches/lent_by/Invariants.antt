use Rattle.std.proofs.Common.{◌≡◌, ℕ, ◌*◌, ◌<◌, true, Decides}
use Rattle.ledger.specs.Room.{use_of, place_of}
use Rattle.ledger.specs.Uses.{is_at, loan_shown}
use Rattle.ledger.proofs.searches.lent_by.Given as goal

abbrev pub invariant-loop-block : goal.invariant-loop-block
invariant-loop-block l = Decides l.taken ((u : ℕ) × (u < 64 * l.block) × (is_at l.d l.p (loan_shown (use_of l.words) (place_of l.words l.who u)) ≡ true))

abbrev pub invariant-loop-v : goal.invariant-loop-v
invariant-loop-v l = Decides l.taken ((u : ℕ) × (u < l.v) × (is_at l.d l.p (loan_shown (use_of l.words) (place_of l.words l.who u)) ≡ true))
