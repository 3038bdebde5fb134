use Rattle.ledger.specs.Changes.{without_lower}
use Rattle.ledger.proofs.Becoming.{becomes_then, becomes_as}
use Rattle.std.proofs.Common.{◌≡◌, ℕ, ◌+◌, ◌*◌, ◌%◌, ◌≤◌, List, slice_index, ◌∙◌, arith, refl, ap, subst}
use Rattle.ledger.specs.View.{view_of}
use Rattle.ledger.proofs.Closed.{lowers_below, lowers_more, lowers_free, lowers_all}
use Rattle.ledger.proofs.Passed.{lowers_passed, no_lowers_there}
use Rattle.ledger.proofs.room.Room.drop_lowers.Goals as goal
use Rattle.ledger.proofs.room.Room.drop_lowers.Goals.{then-low_bits-gt0+else-loop-index-test, else-low_bits-gt0}

pub drop_lower-requires : goal.drop_lower-requires
drop_lower-requires c = rw c.loop-index.invariant.0 (lowers_free c.args.d c.loop-index.index (view_of c.args.self.now.frames c.args.self.now.words.now) (view_of c.args.self.now.frames c.loop-index.self.words.now) c.loop-index.invariant.2 c.requires.free)

pub loop-index-preserved : goal.loop-index-preserved
loop-index-preserved c =
    becomes_then c.args.self.now c.loop-index.self c.drop_lower.new.self _ _ (without_lower c.args.d c.loop-index.index) c.loop-index.invariant c.drop_lower.ensures
    (lowers_more c.args.d c.loop-index.index (view_of c.args.self.now.frames c.args.self.now.words.now) (lowers_below c.args.d c.loop-index.index (view_of c.args.self.now.frames c.args.self.now.words.now)) _ refl refl)

pub loop-block-preserved : goal.loop-block-preserved
loop-block-preserved c =
    elim c.if-low_bits-gt0.branch [
      | then-low_bits-gt0+else-loop-index-test w ↦
          let last : w.loop-index.index ≡ 64 * (c.loop-block.block + 1) = omega arith in
          rw w.self-is (becomes_as c.args.self.now w.loop-index.self _ _ (ap (λ (k : ℕ). lowers_below c.args.d k (view_of c.args.self.now.frames c.args.self.now.words.now)) last) w.loop-index.invariant)
      | else-low_bits-gt0 w ↦
          let last : 64 * c.loop-block.block + 64 ≡ 64 * (c.loop-block.block + 1) = omega arith in
          let none = no_lowers_there c.loop-block.self.words.now c.args.d (64 * c.loop-block.block) c.slot_word.result c.low_bits.result c.slot_word.ensures (λ k l. subst (λ (ws : List ℕ). slice_index ws (c.slot_word.result + k) % 131072 ≤ c.low_bits.result) c.words.ensures (c.low_bits.ensures k l)) (omega arith) in
          rw w.self-is (becomes_as c.args.self.now c.loop-block.self _ _ (ap (λ (k : ℕ). lowers_below c.args.d k (view_of c.args.self.now.frames c.args.self.now.words.now)) last) (lowers_passed c.args.self.now c.loop-block.self c.args.d (64 * c.loop-block.block) none c.loop-block.invariant))
    ]

pub returns : goal.returns
returns c =
    let last : 64 * c.loop-block.block ≡ 512 = omega arith in
    becomes_as c.args.self.now c.loop-block.self _ _ (ap (λ (k : ℕ). lowers_below c.args.d k (view_of c.args.self.now.frames c.args.self.now.words.now)) last ∙ lowers_all c.args.self.now.frames c.args.self.now.words.now c.args.d c.args.self.now.consistent) c.loop-block.invariant
