use Rattle.std.proofs.Common.{ℕ, subst, rules}
use Rattle.ledger.specs.Consistent.{Consistent}
use Rattle.house.proofs.Starting.{keeps_booted}
use Rattle.house.proofs.boot.Goals as goal

pub returns : goal.returns
returns g c =
    let set = subst (λ (n : ℕ). Consistent n c.set_up.result.words.now) c.set_up.ensures.frames c.set_up.result.consistent in
    let kept = keeps_booted c.requires.starts c.requires.unseen c.frames.ensures set c.set_up.ensures.view c.clear.ensures c.start.ensures in
    search (rules, kept)
