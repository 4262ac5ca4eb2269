use mathlib.Core.Path.{◌≡◌}
use Rattle.supposed.specs.Supposed.{supposed_words}
use Rattle.supposed.proofs.index_supposed.Given as goal

abbrev pub invariant-loop-s : goal.invariant-loop-s
invariant-loop-s l = l.ws ≡ supposed_words l.book.bytes.now l.s l.initial.ws
