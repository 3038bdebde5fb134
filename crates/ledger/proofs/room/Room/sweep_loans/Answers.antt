use Rattle.ledger.proofs.Becoming.{becomes_then, becomes_as}
use Rattle.std.proofs.Common.{◌≡◌, ℕ, ◌+◌, ◌*◌, ◌∙◌, arith, refl, ap}
use Rattle.ledger.specs.View.{view_of}
use Rattle.ledger.specs.Uses.{swept_loan, on_page}
use Rattle.ledger.specs.Changes.{with_uses}
use Rattle.ledger.proofs.PassedLoans.{loans_passed, without_there}
use Rattle.ledger.proofs.Swept.{below, swept_none, swept_more, swept_all}
use Rattle.ledger.proofs.room.Room.sweep_loans.Goals as goal
use Rattle.ledger.proofs.room.Room.sweep_loans.Goals.{then-any_tag_of+else-loop-v-test, else-any_tag_of}

pub loop-block-init : goal.loop-block-init
loop-block-init c = (refl, refl, swept_none c.args.who (swept_loan c.args.home c.args.d) (view_of c.args.self.now.frames c.args.self.now.words.now), refl)

pub loop-v-preserved : goal.loop-v-preserved
loop-v-preserved c =
    becomes_then c.args.self.now c.loop-v.self c.sweep_place.new.self _ _ (with_uses (on_page c.args.who c.loop-v.v (swept_loan c.args.home c.args.d))) c.loop-v.invariant c.sweep_place.ensures
    (swept_more c.args.who c.loop-v.v (swept_loan c.args.home c.args.d) (view_of c.args.self.now.frames c.args.self.now.words.now) (with_uses (below c.args.who c.loop-v.v (swept_loan c.args.home c.args.d)) (view_of c.args.self.now.frames c.args.self.now.words.now)) _ refl refl)

pub loop-block-preserved : goal.loop-block-preserved
loop-block-preserved c =
    elim c.if-any_tag_of.branch [
      | then-any_tag_of+else-loop-v-test w ↦
          let last : w.loop-v.v ≡ 64 * (c.loop-block.block + 1) = omega arith in
          rw w.self-is (becomes_as c.args.self.now w.loop-v.self _ _ (ap (λ (k : ℕ). with_uses (below c.args.who k (swept_loan c.args.home c.args.d)) (view_of c.args.self.now.frames c.args.self.now.words.now)) last) w.loop-v.invariant)
      | else-any_tag_of w ↦
          let last : 64 * c.loop-block.block + 64 ≡ 64 * (c.loop-block.block + 1) = omega arith in
          rw w.self-is (becomes_as c.args.self.now c.loop-block.self _ _ (ap (λ (k : ℕ). with_uses (below c.args.who k (swept_loan c.args.home c.args.d)) (view_of c.args.self.now.frames c.args.self.now.words.now)) last) (loans_passed c.args.self.now c.loop-block.self c.args.who c.args.d (64 * c.loop-block.block) c.args.home (without_there c.words.result.now c.loop-block.self.words.now c.args.who c.args.d (64 * c.loop-block.block) c.place_word.result c.any_tag_of.result c.words.ensures c.place_word.ensures c.any_tag_of.ensures.1 w.if-any_tag_of.false) c.loop-block.invariant))
    ]

pub returns : goal.returns
returns c =
    let last : 64 * c.loop-block.block ≡ 1024 = omega arith in
    becomes_as c.args.self.now c.loop-block.self _ _
    (ap (λ (k : ℕ). with_uses (below c.args.who k (swept_loan c.args.home c.args.d)) (view_of c.args.self.now.frames c.args.self.now.words.now)) last ∙ swept_all c.args.self.now.frames c.args.self.now.words.now c.args.self.now.consistent c.args.who c.args.d c.args.home c.requires.owner) c.loop-block.invariant
