use mathlib.Core.Path.{sym}
use Rattle.index.proofs.ListLaws.{link_some, link_none}
use Rattle.index.proofs.link_or.Goals as goal

pub returns-then-l-n : goal.returns-then-l-n
returns-then-l-n c = sym (link_some _ _ _ c.if-l-n.true)

pub returns-else-l-n : goal.returns-else-l-n
returns-else-l-n c = sym (link_none _ _ _ c.if-l-n.false)
