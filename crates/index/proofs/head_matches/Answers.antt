use native.Mathlib.Omega.{arith}
use Rattle.index.proofs.RunLaws.{heads_both}
use Rattle.index.proofs.head_matches.Goals as goal

pub returns : goal.returns
returns c = rw (c.from.ensures, c.from-2.ensures) (heads_both _ c.args.head.symbol c.args.head.count c.args.c _ _ c.field-h.ensures.0 c.symbol_and_count.ensures (omega arith))
