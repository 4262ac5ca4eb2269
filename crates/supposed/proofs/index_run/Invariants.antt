use mathlib.Core.Path.{◌≡◌}
use mathlib.Core.List.{List}
use Prim.Native.Nat.{ℕ, ◌-◌}
use Rattle.supposed.specs.Supposed.{empty_run, run_words}
use Rattle.supposed.proofs.index_run.Given as goal

abbrev pub invariant-loop-i : goal.invariant-loop-i
invariant-loop-i l = (ws₁ : List ℕ) → l.initial.ws ≡ empty_run l.run.first l.run.count l.run.count ws₁ → l.ws ≡ run_words l.book.bytes.now l.s l.run.first l.run.count (l.run.count - l.i) ws₁
