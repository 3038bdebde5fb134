-- What a refusal is told as. Assumes nothing.
use Rattle.std.proofs.Common.{◌≡◌, ap}
use Rattle.std.specs.Prelude.{Ok, Err, Result, MatchResult}
use Rattle.std.specs.Result.{IsErrAnd}
use Rattle.house.specs.declared.Answer.{Answer}
use Rattle.house.specs.declared.Answer.TheVariants.{No}
use Rattle.house.specs.declared.refusals.Refusal.{Refusal}
use Rattle.house.specs.Refusals.{number_of, answer_of}

pub answer_given : {a : Answer} (r : Result Answer Refusal) → MatchResult r (λ x. a ≡ x) (λ e. a ≡ No (number_of e)) → a ≡ answer_of r
answer_given (Ok x) h = h
answer_given (Err e) h = h

pub refusal_told : (e : Refusal) (r : Result Answer Refusal) → IsErrAnd r (λ x. x ≡ e) → answer_of r ≡ No (number_of e)
refusal_told e (Ok a) h = absurd h
refusal_told e (Err x) h = ap (λ y. No (number_of y)) h
