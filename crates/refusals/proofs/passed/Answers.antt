use mathlib.Core.Path.{refl}
use native.Mathlib.Omega.{arith}
use Rattle.refusals.proofs.PassLaws.{readable, passed_first, passed_more}
use Rattle.refusals.proofs.passed.Goals as goal

pub loop-i-init : goal.loop-i-init
loop-i-init c = passed_first c.args.book.now c.args.n c.requires.0

pub passes-requires : goal.passes-requires
passes-requires c = let l = c.loop-i in readable c.args.book.now c.args.n l.i c.requires.0 l.invariant.few _ refl l.invariant.looked

pub loop-i-preserved : goal.loop-i-preserved
loop-i-preserved c = let l = c.loop-i in passed_more c.args.book.now c.args.n l.i c.requires.0 _ c.record_at.ensures (let h = c.loop-i-test.true in omega arith) l.invariant (c.passes.ensures c.if-not-passes.false)
