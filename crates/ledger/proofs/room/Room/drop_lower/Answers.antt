use Rattle.ledger.specs.Room.{low_of}
use Rattle.ledger.specs.Words.{noted}
use Rattle.std.proofs.Common.{arith, ◌≡◌, ℕ, Some, zero, suc, refl, ◌∙◌, rules}
use Rattle.ledger.proofs.Closed.{lower_within, dropped_made}
use Rattle.ledger.proofs.room.Room.drop_lower.Goals as goal

-- what is noted at a slot
at_slot : (x t : ℕ) → Some t ≡ noted x → x ≡ suc t
at_slot zero t e = search rules
at_slot (suc f) t e = search rules

pub set_use-requires : goal.set_use-requires
set_use-requires c = let l = lower_within c.args.self.now.frames c.args.self.now.words.now c.args.at.device c.args.at.index c.args.self.now.consistent c.in-Some.table (at_slot (low_of c.args.self.now.words.now c.args.at.device c.args.at.index) c.in-Some.table c.in-Some.ensures) in record { long = omega (arith, c.args.self.now.consistent.long); fits = tt }

pub returns-in-Some : goal.returns-in-Some
returns-in-Some c = (refl, refl, (dropped_made c.args.self.now.frames c.args.self.now.words.now c.args.at.device c.args.at.index c.args.self.now.consistent c.set_use.new.words c.set_low.new.words c.in-Some.table (at_slot (low_of c.args.self.now.words.now c.args.at.device c.args.at.index) c.in-Some.table c.in-Some.ensures) c.requires (omega arith) (c.set_use.ensures.view c.args.self.now.frames (lower_within c.args.self.now.frames c.args.self.now.words.now c.args.at.device c.args.at.index c.args.self.now.consistent c.in-Some.table (at_slot (low_of c.args.self.now.words.now c.args.at.device c.args.at.index) c.in-Some.table c.in-Some.ensures))) (c.set_low.ensures.view c.args.self.now.frames) (c.set_low.ensures.tags ∙ c.set_use.ensures.tags)).0, omega arith)

pub invariant_of-self : goal.invariant_of-self
invariant_of-self c = record { consistent = (dropped_made c.args.self.now.frames c.args.self.now.words.now c.args.at.device c.args.at.index c.args.self.now.consistent c.set_use.new.words c.set_low.new.words c.in-Some.table (at_slot (low_of c.args.self.now.words.now c.args.at.device c.args.at.index) c.in-Some.table c.in-Some.ensures) c.requires (omega arith) (c.set_use.ensures.view c.args.self.now.frames (lower_within c.args.self.now.frames c.args.self.now.words.now c.args.at.device c.args.at.index c.args.self.now.consistent c.in-Some.table (at_slot (low_of c.args.self.now.words.now c.args.at.device c.args.at.index) c.in-Some.table c.in-Some.ensures))) (c.set_low.ensures.view c.args.self.now.frames) (c.set_low.ensures.tags ∙ c.set_use.ensures.tags)).1 }
