use Rattle.index.proofs.IndexLaws.{made_none}
use Rattle.index.proofs.make_index.Goals as goal

pub loop-i-init : goal.loop-i-init
loop-i-init c = made_none _ _ _ _ _ c.empty_index.ensures
