use native.Mathlib.Omega.{arith}
use Rattle.seeking.proofs.MemoEntries.{rest_here}
use Rattle.seeking.proofs.head_rest.Goals as goal

pub returns : goal.returns
returns c = rw (c.from.ensures, c.from-2.ensures) (rest_here _ _ (omega arith) c.requires)
