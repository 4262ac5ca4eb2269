use mathlib.Core.Path.{sym, ◌∙◌}
use Prim.Native.Nat.{◌<◌}
use native.Mathlib.Omega.{arith}
use Rattle.seeking.proofs.SeekOwn.{last_in}
use Rattle.following.proofs.PlainLaws.{loop_end, loop_none, loop_one, loop_in}
use Rattle.following.proofs.follow.Goals as goal

pub read-run-requires : goal.read-run-requires
read-run-requires c = last_in _ c.args.book.now.readable _ c.requires.formed.1 _ 0 0 c.last-last.ensures

pub returns-in_default : goal.returns-in_default
returns-in_default c = let l : c.loop-rules.rules < c.args.most = omega arith in loop_none _ _ _ _ (sym c.plain_body.ensures ∙ c.in_default.is) l ∙ c.loop-rules.invariant.0

pub loop-rules-preserved : goal.loop-rules-preserved
loop-rules-preserved c = let p = c.requires in let i = c.loop-rules.invariant in let e = sym c.plain_body.ensures ∙ c.in-Some.is in let l : c.loop-rules.rules < c.args.most = omega arith in (loop_one _ _ _ _ _ e l ∙ i.0, loop_in _ p.formed.0 p.formed.1 _ _ i.1 e)

pub returns : goal.returns
returns c = loop_end _ c.loop-rules.g c.loop-rules.rules c.args.most _ (omega arith) (omega arith) ∙ c.loop-rules.invariant.0
