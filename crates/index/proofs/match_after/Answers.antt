use mathlib.Core.Path.{◌∙◌}
use Rattle.index.proofs.RunLaws.{found_is}
use Rattle.index.proofs.HeadLaws.{same_found}
use Rattle.index.proofs.match_after.Goals as goal

pub returns : goal.returns
returns c = let p = c.requires in c.then_some.ensures ∙ found_is _ _ _ (same_found _ _ _ _ p.i_lt_n.2 p.indexed _ _ _ p.i_lt_n.0 p.i_value)
