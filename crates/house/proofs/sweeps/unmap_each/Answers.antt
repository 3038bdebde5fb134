use Rattle.ledger.proofs.Becoming.{becomes_then, becomes_as}
use Rattle.std.proofs.Common.{◌≡◌, ℕ, ◌+◌, ◌*◌, sym, ap, ◌∙◌, subst, arith, refl}
use Rattle.ledger.specs.Room.{place_of}
use Rattle.ledger.specs.View.{View, view_of}
use Rattle.ledger.specs.declared.room.Room.{Room}
use Rattle.ledger.specs.Rooms.{Becomes}
use Rattle.house.specs.Unmapping.{Hid}
use Rattle.house.proofs.PassedOver.{passed_over}
use Rattle.house.proofs.Unmapped.{hid_none, hid_skip, hid_more, left_for}
use Rattle.house.proofs.sweeps.unmap_each.Given as given
use Rattle.house.proofs.sweeps.unmap_each.Goals as goal
use Rattle.house.proofs.sweeps.unmap_each.Goals.{then-present+else-loop-v-test, else-present}

pub loop-block-init : goal.loop-block-init
loop-block-init g c = ((refl, refl, (g.met.S.Sweep.laws c.args.s).none _ _, refl), hid_none _ _ _ _)

pub hide-requires : goal.hide-requires
hide-requires g c =
    let laws = g.met.S.Sweep.laws c.args.s in
    let seen = ap (λ (z : View). g.S.Sweep.shows c.args.s (z.place c.args.who c.loop-v.v)) c.loop-v.invariant.0.2 ∙ laws.later c.args.who c.loop-v.v (view_of c.args.room.now.frames c.args.room.now.words.now) in
    record { soon = left_for 1024 c.loop-v.invariant.1 c.requires.soon (omega arith) (sym (c.if-take.ensures.answer ∙ seen)); program = c.requires.program; place = omega arith }

abbrev so_far : (g : given.Over) (c : goal.Joined-take g) → g.row.M.Denot → Type 0
so_far g c x =
    Hid c.args.who (λ (v : ℕ). g.S.Sweep.shows c.args.s (place_of c.args.room.now.words.now c.args.who v)) (g.M.Machine.hw c.args.w.now) (g.M.Machine.seen c.args.w.now) (c.loop-v.v + 1) (g.M.Machine.hw x) (g.M.Machine.seen x)

pub loop-v-preserved : goal.loop-v-preserved
loop-v-preserved g c =
    let laws = g.met.S.Sweep.laws c.args.s in
    let seen = ap (λ (z : View). g.S.Sweep.shows c.args.s (z.place c.args.who c.loop-v.v)) c.loop-v.invariant.0.2 ∙ laws.later c.args.who c.loop-v.v (view_of c.args.room.now.frames c.args.room.now.words.now) in (
      becomes_then c.args.room.now c.loop-v.room c.take.new.room _ _ (g.S.Sweep.at c.args.s c.args.who c.loop-v.v) c.loop-v.invariant.0 c.take.ensures.room (laws.more c.args.who c.loop-v.v (view_of c.args.room.now.frames c.args.room.now.words.now) (g.S.Sweep.below c.args.s c.args.who c.loop-v.v (view_of c.args.room.now.frames c.args.room.now.words.now)) _ refl refl),
      elim c.if-take.branch [
        | goal.then-take w ↦
            let is = sym (w.if-take.ensures.answer ∙ seen) in
            subst (so_far g c) (sym w.w-is) (hid_more c.loop-v.invariant.1 is (left_for 1024 c.loop-v.invariant.1 c.requires.soon (omega arith) is) w.hide.ensures.steps)
        | goal.else-take w ↦ subst (so_far g c) (sym w.w-is) (hid_skip c.loop-v.invariant.1 (sym (w.if-take.ensures.answer ∙ seen)))
      ],
    )

pub loop-block-preserved : goal.loop-block-preserved
loop-block-preserved g c =
    let P : g.row.M.Denot → Room → ℕ → Type 0 = λ w room k. Becomes c.args.room.now (g.S.Sweep.below c.args.s c.args.who k (view_of c.args.room.now.frames c.args.room.now.words.now)) room ×
    Hid c.args.who (λ (v : ℕ). g.S.Sweep.shows c.args.s (place_of c.args.room.now.words.now c.args.who v)) (g.M.Machine.hw c.args.w.now) (g.M.Machine.seen c.args.w.now) k (g.M.Machine.hw w) (g.M.Machine.seen w) in
    elim c.if-present.branch [
      | then-present+else-loop-v-test w ↦
          let last : w.loop-v.v ≡ 64 * (c.loop-block.block + 1) = omega arith in
          subst (λ x. P x c.if-present.room (64 * (c.loop-block.block + 1))) (sym w.w-is) (subst (λ (x : Room). P w.loop-v.w x (64 * (c.loop-block.block + 1))) (sym w.room-is) (subst (P w.loop-v.w w.loop-v.room) last w.loop-v.invariant))
      | else-present w ↦
          let last : 64 * c.loop-block.block + 64 ≡ 64 * (c.loop-block.block + 1) = omega arith in
          subst (λ x. P x c.if-present.room (64 * (c.loop-block.block + 1))) (sym w.w-is) (subst (λ (x : Room). P c.loop-block.w x (64 * (c.loop-block.block + 1))) (sym w.room-is) (subst (P c.loop-block.w c.loop-block.room) last (passed_over (g.met.S.Sweep.laws c.args.s) c.args.room.now c.loop-block.room c.args.who _ _ _ _ (64 * c.loop-block.block) (c.present.ensures w.if-present.false) c.loop-block.invariant)))
    ]

pub returns : goal.returns
returns g c =
    let last : 64 * c.loop-block.block ≡ 1024 = omega arith in
    record {
      hid = subst (λ (k : ℕ). Hid c.args.who (λ (v : ℕ). g.S.Sweep.shows c.args.s (place_of c.args.room.now.words.now c.args.who v)) (g.M.Machine.hw c.args.w.now) (g.M.Machine.seen c.args.w.now) k (g.M.Machine.hw c.loop-block.w) (g.M.Machine.seen c.loop-block.w)) last c.loop-block.invariant.1;
      room = becomes_as c.args.room.now c.loop-block.room _ _ (ap (λ (k : ℕ). g.S.Sweep.below c.args.s c.args.who k (view_of c.args.room.now.frames c.args.room.now.words.now)) last) c.loop-block.invariant.0;
    }
