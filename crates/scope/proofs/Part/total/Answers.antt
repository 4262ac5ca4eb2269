use Rattle.scope.specs.Parts.{total}
use Rattle.scope.proofs.Part.total.Goals as goal

pub returns : goal.returns
unfolding total
returns c = cc
