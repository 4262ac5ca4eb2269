use mathlib.Core.Path.{refl}
use Rattle.supposed.specs.Supposed.{marked}
use Rattle.supposed.proofs.is_supposed.Goals as goal

pub returns : goal.returns
unfolding marked
returns c = rw c.head_bucket.ensures.0 refl
