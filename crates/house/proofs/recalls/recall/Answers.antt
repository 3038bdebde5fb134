use Rattle.house.specs.Mappings.{Settled}
use Rattle.ledger.proofs.Becoming.{still}
use Rattle.std.proofs.Common.{refl, ℕ, subst, ◌∙◌}
use Rattle.house.proofs.Refused.{refusal_told}
use Rattle.house.proofs.Recalling.{recall_refused, recall_settled}
use Rattle.house.proofs.recalls.recall.Goals as goal

pub returns-in_err-m-clause-told : goal.returns-in_err-m-clause-told
returns-in_err-m-clause-told g c = rw (refusal_told _ c.from_residual.result c.from_residual.ensures.1) (record { lender = refl; keeps = recall_refused _ c.requires.begins.frames c.requires.begins.begins c.in_err-m.ensures })

pub returns : goal.returns
returns g c =
    let p = c.in_ok-m.ensures in
    let o = c.let_go.ensures in
    let d = subst (λ (n : ℕ). Settled n c.args.who c.args.v c.in_ok-m.m.frame c.in_ok-m.m.to.device c.let_go.new.room.words.now c.settle.new.room.words.now (g.M.Machine.hw c.unmap.new.w) (g.M.Machine.seen c.unmap.new.w) (g.M.Machine.hw c.settle.new.w) (g.M.Machine.seen c.settle.new.w) c.settle.result) o.0 c.settle.ensures.settled in
    let k = recall_settled c.settle.result c.requires.begins.frames c.requires.begins.begins p.0 p.1 (still c.args.room.now c.let_go.new.room _ o) o.2 c.unmap.ensures.steps d in
    record { told = record { lender = c.settle.ensures.same.1 ∙ o.1; keeps = k.0 }; accepted = k.1; refused = tt }
