use Rattle.ledger.specs.Changes.{ended_below}
use Rattle.ledger.specs.View.{view_of}
use Rattle.std.proofs.Common.{◌∙◌, arith, refl, ℕ, ◌≡◌, subst, true, false}
use Rattle.ledger.specs.Room.{place_of}
use Rattle.ledger.proofs.Emptied.{ended_all}
use Rattle.house.specs.Closures.{shows_some}
use Rattle.house.proofs.EndRooms.{bared_room, closed_for, kept_for}
use Rattle.house.proofs.Unmapped.{count_most}
use Rattle.house.proofs.Refused.{refusal_told}
use Rattle.house.proofs.Ends.{end_refused, end_may_close, end_may_hide, end_told_later, end_told_done}
use Rattle.house.proofs.ending.end.Goals as goal

pub returns-in_err-plan_end-clause-told : goal.returns-in_err-plan_end-clause-told
returns-in_err-plan_end-clause-told g c = rw (refusal_told _ c.from_residual.result c.from_residual.ensures.1) (record { lender = refl; keeps = end_refused _ c.requires.begins.begins c.in_err-plan_end.ensures })

pub unmap_each-requires-clause-soon : goal.unmap_each-requires-clause-soon
unmap_each-requires-clause-soon g c = let k = count_most (λ v. shows_some (place_of c.args.room.now.words.now c.args.p v)) 1024 in omega (arith, c.requires.soon)

pub close_all-requires : goal.close_all-requires
close_all-requires g c =
    let p = c.in_ok-plan_end.ensures in
    let a = bared_room c.args.room.now c.unmap_each.new.room c.args.p c.unmap_each.ensures.room in
    let f = end_may_close c.requires.begins.frames c.devices-devices.ensures c.requires.soon c.requires.begins.begins c.unmap_each.ensures.hid c.unmap_each.new.room.words.now a.2 in
    record { soon = f.soon; some = f.frames; program = p.0; few = f.few; devices = f.devices; hidden = f.hidden }

pub returns-then-not-close_all-clause-told : goal.returns-then-not-close_all-clause-told
returns-then-not-close_all-clause-told g c =
    let p = c.in_ok-plan_end.ensures in
    let f = c.if-not-close_all.ensures in
    let a = bared_room c.args.room.now c.unmap_each.new.room c.args.p c.unmap_each.ensures.room in
    record {
      lender = f.same.1 ∙ a.1;
      keeps = end_told_later c.requires.begins.frames c.devices-devices.ensures c.requires.begins.begins p.0 p.1 c.unmap_each.ensures.hid c.unmap_each.new.room.words.now a.2 (closed_for c.unmap_each.new.room c.close_all.new.room false a.0 f.closed) (kept_for c.close_all.new.room (f.same.0 ∙ a.0));
    }

pub unmap_each-requires-2 : goal.unmap_each-requires-2
unmap_each-requires-2 g c =
    let p = c.in_ok-plan_end.ensures in
    let f = c.if-not-close_all.ensures in
    let a = bared_room c.args.room.now c.unmap_each.new.room c.args.p c.unmap_each.ensures.room in
    let m = end_may_close c.requires.begins.frames c.devices-devices.ensures c.requires.soon c.requires.begins.begins c.unmap_each.ensures.hid c.unmap_each.new.room.words.now a.2 in
    record {
      soon = end_may_hide c.args.room.now.frames c.args.room.now.words.now c.close_all.new.room.words.now m.few c.requires.soon c.unmap_each.ensures.hid c.unmap_each.new.room.words.now a.2 (closed_for c.unmap_each.new.room c.close_all.new.room true a.0 f.closed);
      program = p.0;
    }

pub returns-clause-told : goal.returns-clause-told
returns-clause-told g c =
    let p = c.in_ok-plan_end.ensures in
    let f = c.if-not-close_all.ensures in
    let a = bared_room c.args.room.now c.unmap_each.new.room c.args.p c.unmap_each.ensures.room in
    let e = f.same.0 ∙ a.0 in
    let o = c.unmap_each-2.ensures.room in
    let v = subst (λ (k : ℕ). view_of k c.unmap_each-2.new.room.words.now ≡ ended_below c.args.p 1024 (view_of k c.close_all.new.room.words.now)) e o.2 in
    record {
      lender = o.1 ∙ f.same.1 ∙ a.1;
      keeps = end_told_done c.close_all.new.room.words.now c.requires.begins.frames c.devices-devices.ensures c.requires.begins.begins p.0 p.1 c.unmap_each.ensures.hid c.unmap_each.new.room.words.now a.2 (closed_for c.unmap_each.new.room c.close_all.new.room true a.0 f.closed) c.unmap_each-2.ensures.hid (v ∙ ended_all c.args.room.now.frames c.close_all.new.room.words.now (kept_for c.close_all.new.room (f.same.0 ∙ a.0)) c.args.p)
          (kept_for c.unmap_each-2.new.room (o.0 ∙ e));
    }
