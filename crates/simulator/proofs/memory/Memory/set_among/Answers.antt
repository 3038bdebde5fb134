use Rattle.std.proofs.Common.{rules, ◌≡◌, ℕ, ◌<◌}
use Rattle.std.proofs.lemmas.Iterator.{first_from_Range}
use borrow.Author.Tests.{tests}
use Rattle.simulator.specs.Store.{mem_of}
use Rattle.simulator.proofs.memory.Memory.set_among.Goals as goal

pub returns : goal.returns
returns c =
    let yes : ℕ → Type 0 = λ k. 0 < mem_of c.args.self.now.words.now c.args.frame k in
    let no : ℕ → Type 0 = λ k. mem_of c.args.self.now.words.now c.args.frame k ≡ 0 in
    first_from_Range _ _ _ c.find.result yes no c.find.ensures.ran (λ x q k. search (rules, tests)) (λ x q k. search (rules, tests))
