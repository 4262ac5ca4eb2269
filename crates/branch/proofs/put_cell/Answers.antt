use mathlib.Core.Path.{refl}
use Rattle.branch.specs.State.{put_cell}
use Rattle.branch.proofs.put_cell.Goals as goal

pub returns : goal.returns
unfolding put_cell
returns c = refl
