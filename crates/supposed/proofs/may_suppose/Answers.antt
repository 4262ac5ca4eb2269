use mathlib.Core.Path.{refl}
use Rattle.supposed.specs.Supposed.{marked_by}
use Rattle.supposed.proofs.may_suppose.Goals as goal

pub returns : goal.returns
unfolding marked_by
returns c = rw c.head_bucket.ensures.0 refl
