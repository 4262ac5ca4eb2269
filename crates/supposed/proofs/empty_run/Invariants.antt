use mathlib.Core.Path.{◌≡◌}
use Rattle.supposed.specs.Supposed.{empty_run}
use Rattle.supposed.proofs.empty_run.Given as goal

abbrev pub invariant-loop-b : goal.invariant-loop-b
invariant-loop-b l = l.ws ≡ empty_run l.run.first l.run.count l.b l.initial.ws
