use Rattle.std.proofs.Common.{◌≡◌, ℕ, ◌+◌, ◌*◌, ◌<◌, Bool, true, Decides, sym, arith, subst}
use Rattle.ledger.specs.Room.{use_of, place_of}
use Rattle.ledger.specs.Uses.{is_at, loan_shown}
use Rattle.ledger.proofs.Searched.{none_among, decided_on}
use Rattle.ledger.proofs.searches.lent_by.Goals as goal
use Rattle.ledger.proofs.searches.lent_by.Goals.{then-bits-tag+else-loop-v-test, else-bits-tag}

pub loop-block-preserved : goal.loop-block-preserved
loop-block-preserved c =
    let Q : ℕ → Type 0 = λ u. is_at c.args.d c.args.p (loan_shown (use_of c.args.words.now) (place_of c.args.words.now c.args.who u)) ≡ true in
    let P : Bool → Type 0 = λ b. Decides b ((u : ℕ) × (u < 64 * (c.loop-block.block + 1)) × Q u) in
    elim c.if-bits-tag.branch [
      | then-bits-tag+else-loop-v-test w ↦
          let last : w.loop-v.v ≡ 64 * (c.loop-block.block + 1) = omega arith in
          subst P (sym w.taken-is) (subst (λ (n : ℕ). Decides w.loop-v.taken ((u : ℕ) × (u < n) × Q u)) last w.loop-v.invariant)
      | else-bits-tag w ↦
          let few = w.if-bits-tag.false in
          subst P (sym w.taken-is) (decided_on c.loop-block.taken Q (64 * c.loop-block.block) (64 * (c.loop-block.block + 1)) (omega arith) c.loop-block.invariant
          (λ u l m. none_among c.args.frames c.args.words.now c.requires.consistent c.args.who c.args.d c.args.p c.requires.program (64 * c.loop-block.block) c.place_word.result c.bits.result c.place_word.ensures (omega arith) c.bits.ensures (omega (arith, few, c.loan_tag-tag.ensures)) u l (omega (arith, m))))
    ]
