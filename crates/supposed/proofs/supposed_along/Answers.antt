use native.Mathlib.Omega.{arith}
use mathlib.Core.Path.{sym, ◌∙◌}
use Rattle.index.proofs.RunLaws.{next_none, next_found, next_on, found_yes, found_no}
use Rattle.supposed.proofs.SearchLaws.{noted_bucket, noted_later, noted_skips}
use Rattle.supposed.proofs.supposed_along.Goals as goal

pub returns-then-head_matches : goal.returns-then-head_matches
returns-then-head_matches c = let h = c.loop-i-test.true in rw (← c.loop-i.invariant.1, next_found _ _ _ _ _ _ _ _ h c.field-c.ensures.0 c.head_matches.ensures c.if-head_matches.true) (found_yes _ _ h)

pub loop-i-smaller : goal.loop-i-smaller
loop-i-smaller c = let h = c.loop-i-test.true in omega (arith, noted_later _ _ _ _ c.requires.run_indexed _ _ _ _ _ h c.field-c.ensures.0 (c.loop-i.invariant.0.bucket h) c.note_of-i.ensures, h)

pub loop-i-preserved : goal.loop-i-preserved
loop-i-preserved c = let p = c.requires in let i = c.loop-i.invariant in let h = c.loop-i-test.true in let e = c.field-c.ensures.0 in let b = i.0.bucket h in let v = c.note_of-i.ensures in (noted_bucket _ _ _ _ p.run_indexed _ _ _ _ _ h e b v, noted_skips _ _ _ _ p.run_indexed _ _ _ _ _ h e b v ∙ sym (next_on _ _ _ _ _ _ _ _ h e c.head_matches.ensures c.if-head_matches.false) ∙ i.1)

pub returns : goal.returns
returns c = let a = c.args in let h = c.loop-i-test.false in let i = c.loop-i.invariant.1 in found_no _ _ (omega (arith, h, i, next_none a.book.now.bytes.now a.head.symbol a.head.count a.run.first c.loop-i.i a.run.count h))
