use mathlib.Core.Path.{refl}
use Rattle.steps.specs.Search.{back_regs}
use Rattle.steps.proofs.to_back.Goals as goal

pub returns : goal.returns
unfolding back_regs
returns c = refl
