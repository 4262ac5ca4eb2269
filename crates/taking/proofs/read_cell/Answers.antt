use mathlib.Core.Path.{refl}
use Rattle.taking.specs.Takes.{cell_of}
use Rattle.taking.proofs.read_cell.Goals as goal

pub returns : goal.returns
unfolding cell_of
returns c = refl
