use native.Mathlib.Omega.{arith}
use mathlib.Core.Path.{refl}
use Rattle.returning.proofs.PassLaws.{inv_start, inv_sought, inv_more, inv_next, inv_gone}
use Rattle.branch.proofs.FromScoped.{own_ready}
use Rattle.returning.proofs.MemoFrames.{indexed_only}
use Rattle.returning.proofs.pass_over.Goals as goal

pub loop-first-init : goal.loop-first-init
loop-first-init c = inv_start _ c.first_term-first.ensures c.requires.to_clause

pub after_next-next-requires-clause-accepted : goal.after_next-next-requires-clause-accepted
after_next-next-requires-clause-accepted c = let p = c.requires in (p.accepted.0, indexed_only c.loop-first.invariant.memo.0 (own_ready _ p.accepted.0) p.accepted.1)

pub passes-requires-clause-first_is : goal.passes-requires-clause-first_is
passes-requires-clause-first_is c = (inv_sought _ _ c.loop-first.invariant c.after_next-next.ensures.memo_stays).first

pub passes-requires-clause-to_clause : goal.passes-requires-clause-to_clause
passes-requires-clause-to_clause c = (inv_sought _ _ c.loop-first.invariant c.after_next-next.ensures.memo_stays).some

pub returns-then-not-passes-clause-pass_gives : goal.returns-then-not-passes-clause-pass_gives
returns-then-not-passes-clause-pass_gives c = let I = inv_sought _ _ c.loop-first.invariant c.after_next-next.ensures.memo_stays in λ threads X. inv_next _ _ _ I c.after_next-next.ensures.next_is threads X

pub returns-then-left-used-lt2-clause-pass_gives : goal.returns-then-left-used-lt2-clause-pass_gives
returns-then-left-used-lt2-clause-pass_gives c = let I = inv_sought _ _ c.loop-first.invariant c.after_next-next.ensures.memo_stays in λ threads X. inv_next _ _ _ I c.after_next-next.ensures.next_is threads X

pub returns-in-None-clause-pass_gives : goal.returns-in-None-clause-pass_gives
returns-in-None-clause-pass_gives c = let p = c.requires in let I = inv_sought _ _ c.loop-first.invariant c.after_next-next.ensures.memo_stays in let d = c.passes.ensures c.if-not-passes.false in λ threads X. inv_gone c.args.book.now.readable p.accepted.0 _ _ I (omega (arith, c.if-left-used-lt2.false)) _ refl d _ c.after_next-next.ensures.next_is c.in-None.is threads X

pub loop-first-preserved : goal.loop-first-preserved
loop-first-preserved c = let p = c.requires in let I = inv_sought _ _ c.loop-first.invariant c.after_next-next.ensures.memo_stays in let d = c.passes.ensures c.if-not-passes.false in inv_more c.args.book.now.readable p.accepted.0 _ _ I (omega (arith, c.if-left-used-lt2.false)) _ refl d _ c.after_next-next.ensures.next_is _ _ c.in-Some.is c.at_place-y.ensures
