use Rattle.engine.proofs.OpenLaws.{opened}
use Rattle.engine.proofs.open_words.Goals as goal

pub returns : goal.returns
returns c = opened _ _ _ c.told-ws c.clear_words.ensures c.forget.ensures
