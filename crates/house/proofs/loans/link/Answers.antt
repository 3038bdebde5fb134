use Rattle.ledger.specs.declared.Loan.TheVariants.{Lent}
use Rattle.ledger.specs.Room.{top_of}
use Rattle.ledger.specs.Changes.{with_loan}
use Rattle.ledger.specs.View.{view_of}
use Rattle.house.specs.Lends.{Lendable}
use Rattle.ledger.proofs.Becoming.{still, seen_from, becomes_then}
use Rattle.std.proofs.Common.{ap, List, ℕ, subst, refl, ◌∙◌, ◌<◌}
use Rattle.house.proofs.LendCalls.{lower_made, lower_ready, link_told}
use Rattle.house.proofs.loans.link.Goals as goal

pub set_loan-requires : goal.set_loan-requires
set_loan-requires g c =
    let o = lower_made c.args.room.now c.into_lower_table-table.new.room c.args.to c.args.taken.frame c.slot-slot.ensures.device c.slot-slot.ensures.index c.into_lower_table-table.ensures.room in
    let p = lower_ready c.args.room.now.words.now c.into_lower_table-table.new.room.words.now c.args.taken.frame c.args.to c.requires.begins.frames (subst (λ (n : ℕ). Lendable (view_of n c.args.room.now.words.now) (g.M.Machine.hw c.args.w.now).devices c.args.from.who c.args.from.v c.args.f c.args.to.device c.args.to.page) c.requires.begins.frames c.requires.lendable) c.requires.begins.begins.holds.fits.few o.2 in
    record { place = p.0; fits = p.1.0; may = p.1.1; alone = rw o.0 p.2 }

pub returns : goal.returns
returns g c =
    let o = lower_made c.args.room.now c.into_lower_table-table.new.room c.args.to c.args.taken.frame c.slot-slot.ensures.device c.slot-slot.ensures.index c.into_lower_table-table.ensures.room in
    let l = c.set_loan.ensures in
    let both = becomes_then c.args.room.now c.into_lower_table-table.new.room c.set_loan.new.self _ _ (with_loan c.args.from.who c.args.from.v c.args.f (Lent c.args.to)) o l refl in
    record {
      lender = l.1 ∙ o.1;
      keeps = link_told c.into_lower_table-table.new.room.words.now c.requires.begins.frames c.requires.begins.begins (subst (λ (n : ℕ). Lendable (view_of n c.args.room.now.words.now) (g.M.Machine.hw c.args.w.now).devices c.args.from.who c.args.from.v c.args.f c.args.to.device c.args.to.page) c.requires.begins.frames c.requires.lendable) c.requires.missing (subst (λ (n : ℕ). c.args.taken.frame < n) c.requires.begins.frames c.requires.within) c.requires.idle (c.top_at-upper.ensures ∙ ap (λ (ws : List ℕ). top_of ws c.args.to.device) c.words.ensures) c.clear.ensures c.into_lower_table-table.ensures.frame o.2
          c.word.ensures c.entry.ensures c.write.ensures.steps c.slot-slot.ensures.index c.write-2.ensures.steps (still c.args.room.now c.set_loan.new.self _ both) (seen_from c.args.room.now c.into_lower_table-table.new.room c.set_loan.new.self _ (with_loan c.args.from.who c.args.from.v c.args.f (Lent c.args.to)) o l);
    }
