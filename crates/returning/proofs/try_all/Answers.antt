use native.Mathlib.Omega.{arith}
use Rattle.std.proofs.Common.{None}
use Rattle.returning.specs.Reentry.{regs_kept}
use mathlib.Core.Path.{refl}
use Rattle.returning.proofs.PassLaws.{pass_some, pass_memo, pass_budget, pass_next, pass_through, through_memo}
use Rattle.steps.proofs.RunLaws.{units_most}
use Rattle.returning.proofs.MemoFrames.{memo_ended, memo_later}
use Rattle.returning.proofs.try_all.Goals as goal

pub returns-then-left-used : goal.returns-then-left-used
returns-then-left-used c = let p = c.requires in record { tries = (λ r threads h X. pass_budget _ c.args.book.now.readable p.accepted.0 _ _ _ _ _ _ c.pass_over.ensures.pass_gives c.pass_over.ensures.memo_stays _ _ _ c.in-Next.is r c.if-left-used.true threads X); memo_stepped = memo_ended _ _ _ _ _ }

pub try_next-requires : goal.try_next-requires
try_next-requires c = let p = c.requires in let s = pass_some _ c.args.book.now.readable p.accepted.0 _ _ _ _ _ _ c.pass_over.ensures.pass_gives c.pass_over.ensures.memo_stays _ _ _ c.in-Next.is p.to_clause in let M = pass_memo _ c.args.book.now.readable p.accepted.0 _ _ _ _ _ _ c.pass_over.ensures.pass_gives c.pass_over.ensures.memo_stays _ _ _ c.in-Next.is p.to_clause p.memo in record { accepted = (p.accepted.0, s.2); left_nonzero = omega (arith, c.if-left-used.false); to_clause = s.1; memo = M }

pub later-requires : goal.later-requires
later-requires c = let p = c.requires in
    let s = pass_some _ c.args.book.now.readable p.accepted.0 _ _ _ _ _ _ c.pass_over.ensures.pass_gives c.pass_over.ensures.memo_stays _ _ _ c.in-Next.is p.to_clause in
    let u = units_most (c.try_next.ensures.tries (regs_kept c.in-Next.y 0 None) s.1.0 refl s.1.1) in
    omega (arith, u, s.0, c.ranges.left.fits)

pub returns-in-Through : goal.returns-in-Through
returns-in-Through c = let p = c.requires in record { tries = (λ r threads h X. pass_through _ c.args.book.now.readable p.accepted.0 _ _ _ _ _ _ c.pass_over.ensures.pass_gives c.pass_over.ensures.memo_stays _ _ c.in-Through.is _ c.registers.ensures r h threads X); memo_stepped = through_memo _ c.args.book.now.readable p.accepted.0 _ _ _ _ _ _ c.pass_over.ensures.pass_gives c.pass_over.ensures.memo_stays _ _ c.in-Through.is _ c.registers.ensures p.to_clause p.memo }

pub returns-else-left-used : goal.returns-else-left-used
returns-else-left-used c = let p = c.requires in record { tries = (λ r threads h X. pass_next _ c.args.book.now.readable p.accepted.0 _ _ _ _ _ _ c.pass_over.ensures.pass_gives c.pass_over.ensures.memo_stays _ _ _ c.in-Next.is r _ _ _ (λ ts Y. c.try_next.ensures.tries r ts h Y) c.later.ensures threads X); memo_stepped = memo_later _ _ _ _ _ _ c.later.ensures c.try_next.ensures.memo_stepped }
