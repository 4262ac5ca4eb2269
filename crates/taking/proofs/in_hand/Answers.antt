use mathlib.Core.Path.{refl}
use Rattle.taking.specs.Takes.{in_hand}
use Rattle.taking.proofs.in_hand.Goals as goal

pub returns : goal.returns
unfolding in_hand
returns c = refl
