use Rattle.scope.specs.Ties.{tie_run}
use Rattle.scope.proofs.clause_ties.Goals as goal

pub returns-then-n-eq0 : goal.returns-then-n-eq0
unfolding tie_run
returns-then-n-eq0 c = rw c.if-n-eq0.true
