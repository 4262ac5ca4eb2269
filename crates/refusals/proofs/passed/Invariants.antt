use Rattle.refusals.specs.Passes.{Passed}
use Rattle.refusals.proofs.passed.Given as goal

abbrev pub invariant-loop-i : goal.invariant-loop-i
invariant-loop-i l = Passed l.book l.n l.i
