use Rattle.std.proofs.Common.{◌≡◌}
use Rattle.script.proofs.input.Lines.advance.Given as goal

abbrev pub invariant-loop : goal.invariant-loop
invariant-loop g l = l.self.count ≡ l.initial.self.count
