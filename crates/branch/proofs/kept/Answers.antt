use mathlib.Core.Path.{refl}
use Rattle.branch.specs.Alternatives.{back_of}
use Rattle.branch.proofs.kept.Goals as goal

pub returns : goal.returns
unfolding back_of
returns c = refl
