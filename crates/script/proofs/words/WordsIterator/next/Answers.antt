use Rattle.std.proofs.Common.{◌==◌, sym, ap, ◌∙◌, rules}
use Rattle.script.specs.Left.{left}
use Rattle.script.proofs.Cuts.{cut, whole}
use Rattle.script.proofs.words.WordsIterator.next.Goals as goal

pub returns-in-Some-clause-steps : goal.returns-in-Some-clause-steps
returns-in-Some-clause-steps c =
    sym c.self.view_is ∙ ap left c.in_ok-rest.was ∙ cut (λ x. x == 32) c.in_ok-rest.rest.now 0 c.in-Some.at c.in-Some.ensures

pub returns-in-Some-clause-goes : goal.returns-in-Some-clause-goes
returns-in-Some-clause-goes c = rw (returns-in-Some-clause-steps c) (search rules)

pub returns-in-None-clause-steps : goal.returns-in-None-clause-steps
returns-in-None-clause-steps c =
    sym c.self.view_is ∙ ap left c.in_ok-rest.was ∙ whole (λ x. x == 32) c.in_ok-rest.rest.now c.in-None.ensures

pub returns-in-None-clause-goes : goal.returns-in-None-clause-goes
returns-in-None-clause-goes c = rw (returns-in-None-clause-steps c) (search rules)
