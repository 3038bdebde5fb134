use Rattle.house.specs.Closures.{closed_as}
use Rattle.ledger.proofs.Becoming.{becomes_as, becomes_then, still, seen_from}
use Rattle.std.proofs.Common.{true, false, arith, refl}
use Rattle.ledger.specs.Room.{place_of}
use Rattle.ledger.specs.Uses.{shows_registers}
use Rattle.ledger.proofs.Emptied.{hidden_all}
use Rattle.house.proofs.Unmapped.{count_most}
use Rattle.house.proofs.Refused.{refusal_told}
use Rattle.house.proofs.Closes.{close_refused, close_may_forget, close_told}
use Rattle.house.proofs.closing.close.Goals as goal

pub returns-in_err-plan_close-clause-told : goal.returns-in_err-plan_close-clause-told
returns-in_err-plan_close-clause-told g c = rw (refusal_told _ c.from_residual.result c.from_residual.ensures.1) (record { lender = refl; keeps = close_refused _ c.requires.begins.frames c.devices.ensures c.requires.begins.begins c.in_err-plan_close.ensures })

pub unmap_each-requires-clause-soon : goal.unmap_each-requires-clause-soon
unmap_each-requires-clause-soon g c = let k = count_most (λ v. shows_registers c.args.d (place_of c.args.room.now.words.now c.args.who v)) 1024 in omega (arith, c.requires.soon, c.write.ensures.asked.left)

pub forget-requires : goal.forget-requires
forget-requires g c =
    let p = c.in_ok-plan_close.ensures in
    let a = (becomes_as c.args.room.now c.unmap_each.new.room _ _ (hidden_all c.args.room.now.frames c.args.room.now.words.now c.args.room.now.consistent c.args.who c.args.d p.1) c.unmap_each.ensures.room) in
    let f = close_may_forget c.args.room.now.frames c.devices.ensures c.requires.soon c.requires.begins.begins p.0 p.1 c.write.ensures.asked c.unmap_each.ensures.hid c.unmap_each.new.room.words.now a.2 in
    record { soon = f.soon; program = c.requires.begins.begins.program; device = f.few; there = f.known; owner = f.owner; hidden = f.hidden }

pub returns-then-forget-clause-told : goal.returns-then-forget-clause-told
returns-then-forget-clause-told g c =
    let p = c.in_ok-plan_close.ensures in
    let f = c.if-forget.ensures in
    let a = (becomes_as c.args.room.now c.unmap_each.new.room _ _ (hidden_all c.args.room.now.frames c.args.room.now.words.now c.args.room.now.consistent c.args.who c.args.d p.1) c.unmap_each.ensures.room) in
    let b = becomes_then c.args.room.now c.unmap_each.new.room c.forget.new.room _ _ (closed_as true c.args.who c.args.d) a f.room refl in
    record {
      lender = b.1;
      keeps = close_told true c.requires.begins.frames c.devices.ensures c.requires.begins.begins p.0 p.1 c.write.ensures.steps c.unmap_each.ensures.hid f.drained c.unmap_each.new.room.words.now a.2 (seen_from c.args.room.now c.unmap_each.new.room c.forget.new.room _ (closed_as true c.args.who c.args.d) a f.room) (still c.args.room.now c.forget.new.room _ b);
    }

pub returns-else-forget-clause-told : goal.returns-else-forget-clause-told
returns-else-forget-clause-told g c =
    let p = c.in_ok-plan_close.ensures in
    let f = c.if-forget.ensures in
    let a = (becomes_as c.args.room.now c.unmap_each.new.room _ _ (hidden_all c.args.room.now.frames c.args.room.now.words.now c.args.room.now.consistent c.args.who c.args.d p.1) c.unmap_each.ensures.room) in
    let b = becomes_then c.args.room.now c.unmap_each.new.room c.forget.new.room _ _ (closed_as false c.args.who c.args.d) a f.room refl in
    record {
      lender = b.1;
      keeps = close_told false c.requires.begins.frames c.devices.ensures c.requires.begins.begins p.0 p.1 c.write.ensures.steps c.unmap_each.ensures.hid f.drained c.unmap_each.new.room.words.now a.2 (seen_from c.args.room.now c.unmap_each.new.room c.forget.new.room _ (closed_as false c.args.who c.args.d) a f.room) (still c.args.room.now c.forget.new.room _ b);
    }
