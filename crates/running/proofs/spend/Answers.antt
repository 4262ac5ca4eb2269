use mathlib.Core.Path.{refl}
use Rattle.steps.specs.Search.{spent_units}
use Rattle.running.proofs.spend.Goals as goal

pub returns : goal.returns
unfolding spent_units
returns c = refl
