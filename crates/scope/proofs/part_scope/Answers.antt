use mathlib.Core.Path.{sym}
use Rattle.scope.proofs.part_scope.Goals as goal

pub returns-then-is_fine : goal.returns-then-is_fine
returns-then-is_fine c = λ d h. sym (c.is_fine.ensures c.if-is_fine.true d h)
