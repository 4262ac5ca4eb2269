use native.Mathlib.Omega.{arith}
use mathlib.Core.Path.{refl}
use Rattle.unifier.proofs.TurnLaws.{unify_start, unify_over, unify_on, unify_spent, unify_end, ends_most}
use Rattle.unifier.proofs.unify.Goals as goal

pub returns-then-m-eq0 : goal.returns-then-m-eq0
returns-then-m-eq0 c = let p = c.requires in unify_end _ _ _ _ _ _ _ _ _ _ p.slots.0 p.slots.1 p.good_run _ _ _ _ (unify_start _ _ _ _ _ _ _ _ _ _ p.slots.0 p.slots.1 p.good_run 0 refl) c.if-m-eq0.true

pub loop-more-init : goal.loop-more-init
loop-more-init c = let p = c.requires in (omega arith, omega (arith, c.if-m-eq0.false), unify_start _ _ _ _ _ _ _ _ _ _ p.slots.0 p.slots.1 p.good_run _ (omega arith))

pub turn-requires : goal.turn-requires
turn-requires c = let i = c.loop-more.invariant in record { pairs = i.2.pairs; count_nonzero = (i.1, omega (arith, c.loop-more-test.true)) }

pub overflow_sub-result : goal.overflow_sub-result
overflow_sub-result c = c.loop-more.invariant.0

pub overflow_add-result : goal.overflow_add-result
overflow_add-result c = let p = c.requires in let i = c.loop-more.invariant in omega (arith, ends_most (unify_over _ _ _ _ _ _ _ _ _ _ p.slots.0 p.slots.1 p.good_run _ _ _ _ i.2 _ (omega (arith, i.0)) _ _ c.turn.ensures _ c.in-Break.is), c.ranges)

pub returns-in-Break : goal.returns-in-Break
returns-in-Break c = let p = c.requires in let i = c.loop-more.invariant in unify_over _ _ _ _ _ _ _ _ _ _ p.slots.0 p.slots.1 p.good_run _ _ _ _ i.2 _ (omega (arith, i.0)) _ _ c.turn.ensures _ c.in-Break.is

pub overflow_sub-result-then-x-eq0 : goal.overflow_sub-result-then-x-eq0
overflow_sub-result-then-x-eq0 c = c.loop-more.invariant.0

pub overflow_add-result-then-x-eq0 : goal.overflow_add-result-then-x-eq0
overflow_add-result-then-x-eq0 c = let p = c.requires in let i = c.loop-more.invariant in let x = unify_on _ _ _ _ _ _ _ _ _ _ p.slots.0 p.slots.1 p.good_run _ _ _ _ i.2 _ (omega (arith, i.0)) _ _ c.turn.ensures _ _ _ c.in-Continue.is _ refl in omega (arith, x.0.enough, c.ranges)

pub returns-then-x-eq0 : goal.returns-then-x-eq0
returns-then-x-eq0 c = let p = c.requires in let i = c.loop-more.invariant in let x = unify_on _ _ _ _ _ _ _ _ _ _ p.slots.0 p.slots.1 p.good_run _ _ _ _ i.2 _ (omega (arith, i.0)) _ _ c.turn.ensures _ _ _ c.in-Continue.is _ refl in unify_end _ _ _ _ _ _ _ _ _ _ p.slots.0 p.slots.1 p.good_run _ _ _ _ x.0 c.if-x-eq0.true

pub overflow_sub-more : goal.overflow_sub-more
overflow_sub-more c = let p = c.requires in let i = c.loop-more.invariant in let x = unify_on _ _ _ _ _ _ _ _ _ _ p.slots.0 p.slots.1 p.good_run _ _ _ _ i.2 _ (omega (arith, i.0)) _ _ c.turn.ensures _ _ _ c.in-Continue.is _ refl in omega (arith, x.0.enough, i.0)

pub loop-more-smaller : goal.loop-more-smaller
loop-more-smaller c = let p = c.requires in let i = c.loop-more.invariant in let x = unify_on _ _ _ _ _ _ _ _ _ _ p.slots.0 p.slots.1 p.good_run _ _ _ _ i.2 _ (omega (arith, i.0)) _ _ c.turn.ensures _ _ _ c.in-Continue.is _ refl in omega (arith, x.0.enough, x.1, i.0)

pub loop-more-preserved : goal.loop-more-preserved
loop-more-preserved c = let p = c.requires in let i = c.loop-more.invariant in let x = unify_on _ _ _ _ _ _ _ _ _ _ p.slots.0 p.slots.1 p.good_run _ _ _ _ i.2 _ (omega (arith, i.0)) _ _ c.turn.ensures _ _ _ c.in-Continue.is _ refl in (omega (arith, i.0), omega (arith, c.if-x-eq0.false), (unify_on _ _ _ _ _ _ _ _ _ _ p.slots.0 p.slots.1 p.good_run _ _ _ _ i.2 _ (omega (arith, i.0)) _ _ c.turn.ensures _ _ _ c.in-Continue.is _ (omega (arith, x.0.enough, i.0))).0)

pub returns : goal.returns
returns c = let p = c.requires in let i = c.loop-more.invariant in unify_spent _ _ _ _ _ _ _ _ _ _ p.slots.0 p.slots.1 p.good_run _ _ _ _ i.2 (omega (arith, c.loop-more-test.false))
