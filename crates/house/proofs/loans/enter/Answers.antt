use Rattle.ledger.specs.View.{view_of}
use Rattle.house.specs.Lends.{Lendable}
use Rattle.ledger.proofs.Becoming.{still}
use Rattle.std.proofs.Common.{ℕ, subst}
use Rattle.house.proofs.LendCalls.{enter_told}
use Rattle.house.proofs.loans.enter.Goals as goal

pub returns : goal.returns
returns g c =
    let o = c.set_loan.ensures in
    record {
      lender = o.1;
      keeps = enter_told c.requires.begins.frames c.requires.begins.begins (subst (λ (n : ℕ). Lendable (view_of n c.args.room.now.words.now) (g.M.Machine.hw c.args.w.now).devices c.args.from.who c.args.from.v c.args.f c.args.to.device c.args.to.page) c.requires.begins.frames c.requires.lendable) c.requires.table c.word.ensures c.entry.ensures c.write.ensures.steps (still c.args.room.now c.set_loan.new.self _ o) o.2;
    }
