use Rattle.book.specs.Scope.{scope_fault}
use Rattle.scope.proofs.fault.Goals as goal

pub returns-then-ok : goal.returns-then-ok
unfolding scope_fault
returns-then-ok c = rw (scope_fault, c.if-ok.true)

pub returns-else-ok : goal.returns-else-ok
unfolding scope_fault
returns-else-ok c = rw (scope_fault, c.if-ok.false)
