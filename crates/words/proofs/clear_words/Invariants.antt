use mathlib.Core.Path.{◌≡◌}
use Rattle.words.specs.Frame.{clear_words}
use Rattle.words.proofs.clear_words.Given as goal

abbrev pub invariant-loop-i : goal.invariant-loop-i
invariant-loop-i l = l.ws ≡ clear_words l.at l.i l.initial.ws
