use Rattle.words.proofs.ClearLaws.{clear_none, clear_more}
use Rattle.words.proofs.clear_words.Goals as goal

pub loop-i-init : goal.loop-i-init
loop-i-init c = clear_none _ _

pub loop-i-preserved : goal.loop-i-preserved
loop-i-preserved c = clear_more _ _ _ _ c.loop-i.invariant
