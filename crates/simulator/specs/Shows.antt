-- What a program's access to a place of its space comes to.
-- Assumes nothing.
use Rattle.std.specs.Prelude.{◌≡◌, ◌≢◌, ℕ, ◌<◌, Result, Ok, Err}
use Rattle.house.specs.Machine.{Frame}
use Rattle.script.specs.declared.forms.Line.TheVariants.{Load, Store}
use Rattle.script.specs.declared.outcomes.Outcome.{Outcome}
use Rattle.script.specs.declared.outcomes.Outcome.TheVariants.{No}
use Rattle.simulator.specs.declared.refused.Refused.{Refused}
use Rattle.simulator.specs.declared.refused.Refused.TheVariants.{OutOfRange}
use Rattle.simulator.specs.Store.{space_of}
use Rattle.simulator.specs.Parts.{Parts, seen_of, Ran}
use Rattle.simulator.specs.Effects.{Same}
use Rattle.simulator.specs.Heard.{Heard}

-- program c, its place v and word k: refused; said, of a load as of a store, where no page is shown; or the frame of the page
abbrev pub Showed : Parts → ℕ → ℕ → ℕ → Result (Result ℕ Outcome) Refused → Parts → Type 0
Showed p c v k (Err e) q = Same p q × (e ≡ OutOfRange → c < 32 → v < 1024 → k < 512 → ⊥)
Showed p c v k (Ok (Err o)) q = Ran p q × Heard (seen_of p) (Load c v k) o (seen_of q) × ((x : ℕ) → Heard (seen_of p) (Store c v k x) o (seen_of q)) × (o ≢ No 1)
Showed p c v k (Ok (Ok f)) q = (c < 32) × (v < 1024) × (k < 512) × (space_of p.space c v ≡ Frame f) × (f < p.frames) × (q ≡ p)
