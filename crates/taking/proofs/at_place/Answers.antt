use mathlib.Core.Path.{refl}
use Rattle.taking.specs.Takes.{atom_kept}
use Rattle.taking.proofs.at_place.Goals as goal

pub returns : goal.returns
unfolding atom_kept
returns c = rw c.from.ensures refl
