use Rattle.index.proofs.IndexLaws.{emptied}
use Rattle.index.proofs.empty_index.Goals as goal

pub returns : goal.returns
returns c = emptied _ _ _ c.told-ws (c.fill.ensures.after (λ y e. e))
