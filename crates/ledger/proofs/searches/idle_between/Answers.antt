use Rattle.std.proofs.Common.{rules, ◌≡◌, ℕ, ◌≢◌}
use Rattle.std.proofs.lemmas.Iterator.{first_from_Range}
use borrow.Author.Tests.{tests}
use Rattle.ledger.specs.declared.Use.TheVariants.{Idle}
use Rattle.ledger.specs.Room.{use_of}
use Rattle.ledger.proofs.searches.idle_between.Goals as goal

pub returns : goal.returns
returns c =
    let yes : ℕ → Type 0 = λ f. use_of c.args.words.now f ≡ Idle in
    let no : ℕ → Type 0 = λ f. use_of c.args.words.now f ≢ Idle in
    first_from_Range _ _ _ c.find.result yes no c.find.ensures.ran (λ x q k. search (rules, tests)) (λ x q k. search (rules, tests))
