use native.Mathlib.Omega.{arith}
use Rattle.index.proofs.HeadLaws.{list_begins, list_here_found, list_ends, list_goes_on, list_done}
use Rattle.index.proofs.head_node.Goals as goal

pub loop-z-init : goal.loop-z-init
loop-z-init c = λ i a L. list_begins _ _ _ _ _ i _ c.requires.first_bound.1 a L _ c.head_bucket.ensures.1 c.head_bucket.ensures.0

pub returns-then-head_matches : goal.returns-then-head_matches
returns-then-head_matches c = λ i a L. list_here_found _ _ _ _ _ i _ _ _ (c.loop-z.invariant i a L) c.loop-z-test.true c.field-c.ensures.0 c.head_matches.ensures c.if-head_matches.true

pub returns-then-link-z : goal.returns-then-link-z
returns-then-link-z c = λ i a L. list_ends _ _ _ _ _ i _ c.requires.first_bound.1 a L _ (c.loop-z.invariant i a L) c.loop-z-test.true _ _ c.field-c.ensures.0 c.head_matches.ensures c.if-head_matches.false c.if-link-z.true

pub loop-z-smaller : goal.loop-z-smaller
loop-z-smaller c = let q = c.requires.by_index in let i = q.0 in let a = q.1 in let L = q.2 in omega (arith, (list_goes_on _ _ _ _ _ i _ c.requires.first_bound.1 a L _ (c.loop-z.invariant i a L) c.loop-z-test.true _ _ c.field-c.ensures.0 c.head_matches.ensures c.if-head_matches.false c.if-link-z.false).0, c.loop-z-test.true)

pub loop-z-preserved : goal.loop-z-preserved
loop-z-preserved c = λ i a L. (list_goes_on _ _ _ _ _ i _ c.requires.first_bound.1 a L _ (c.loop-z.invariant i a L) c.loop-z-test.true _ _ c.field-c.ensures.0 c.head_matches.ensures c.if-head_matches.false c.if-link-z.false).1

pub returns : goal.returns
returns c = λ i a L. list_done _ _ _ _ _ i _ (c.loop-z.invariant i a L) c.loop-z-test.false
