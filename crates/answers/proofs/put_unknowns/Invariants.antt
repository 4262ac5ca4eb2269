use mathlib.Core.Path.{◌≡◌}
use Rattle.answers.specs.Steps.{unknown_words}
use Rattle.answers.proofs.put_unknowns.Given as goal

abbrev pub invariant-loop-i : goal.invariant-loop-i
invariant-loop-i l = l.ws ≡ unknown_words l.unknowns l.i l.initial.ws
