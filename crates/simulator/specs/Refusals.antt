-- What is said of a refusal.
-- Assumes nothing.
use Rattle.script.specs.declared.outcomes.Outcome.{Outcome}
use Rattle.script.specs.declared.outcomes.Outcome.TheVariants as say
use Rattle.simulator.specs.declared.refused.Refused.{Refused}
use Rattle.simulator.specs.declared.refused.Refused.TheVariants.{OutOfRange, NoRoom, NoFrame, ReadOnly}

abbrev pub refusal_of : Refused → Outcome
refusal_of OutOfRange = say.No 1
refusal_of NoRoom = say.Over
refusal_of NoFrame = say.Over
refusal_of ReadOnly = say.Over
