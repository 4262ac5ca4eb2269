use native.Mathlib.Omega.{arith}
use mathlib.Core.Path.{sym}
use Rattle.words.proofs.StackLaws.{keeps_narrow}
use Rattle.seeking.proofs.SeekChain.{candidate_put, record_is, word_large, goal_ready, found_here, none_found, put_matches, put_as, all_same, put_at_lem}
use Rattle.seeking.proofs.SeekOwn.{own_matches, own_sought}
use Rattle.seeking.proofs.seek_after.Goals as goal

pub own_after-requires-clause-own_matches : goal.own_after-requires-clause-own_matches
own_after-requires-clause-own_matches c = let p = c.requires in own_matches _ p.formed.0 _ _ _ _ _ _ _ p.formed.1 c.if-p-eq0.true p.candidate

pub returns-then-p-eq0-clause-sought : goal.returns-then-p-eq0-clause-sought
returns-then-p-eq0-clause-sought c = let p = c.requires in λ rest z. rw c.own_after.ensures (own_sought _ p.formed.0 _ _ _ _ _ _ _ _ p.formed.1 c.if-p-eq0.true z)

pub overflow_sub-s : goal.overflow_sub-s
overflow_sub-s c = let p = c.requires in let y = c.if-p-eq0.false in let x = put_at_lem (omega arith) (candidate_put _ c.args.book.now.readable p.formed.0 _ _ _ _ _ _ _ (omega arith) p.candidate).1.1 in omega (arith, word_large _ c.args.book.now.readable p.formed.0 _ _ _ _ _ _ x)

pub next_of-requires-clause-s_bound : goal.next_of-requires-clause-s_bound
next_of-requires-clause-s_bound c = let p = c.requires in let y = c.if-p-eq0.false in let x = put_at_lem (omega arith) (candidate_put _ c.args.book.now.readable p.formed.0 _ _ _ _ _ _ _ (omega arith) p.candidate).1.1 in goal_ready _ c.args.book.now.readable p.formed.0 _ _ _ _ _ _ x

pub next_of-requires-clause-i_bound : goal.next_of-requires-clause-i_bound
next_of-requires-clause-i_bound c = let p = c.requires in let y = c.if-p-eq0.false in let x = put_at_lem (omega arith) (candidate_put _ c.args.book.now.readable p.formed.0 _ _ _ _ _ _ _ (omega arith) p.candidate).1.1 in (rw (record_is _ c.args.book.now.readable p.formed.0 _ _ _ _ _ _ x) (omega (arith, x.most)), put_matches _ c.args.book.now.readable p.formed.0 _ _ _ _ _ _ _ (omega arith) p.candidate)

pub returns-in-Some-clause-sought : goal.returns-in-Some-clause-sought
returns-in-Some-clause-sought c = let p = c.requires in let y = c.if-p-eq0.false in λ rest z. found_here _ c.args.book.now.readable p.formed.0 _ _ _ _ _ rest (put_at_lem (omega arith) z) _ _ _ c.next_of.ensures.0 _ c.in-Some.is _ (omega arith)

pub seek_before-w-requires : goal.seek_before-w-requires
seek_before-w-requires c = let p = c.requires in let y = c.if-p-eq0.false in let x = put_at_lem (omega arith) (candidate_put _ c.args.book.now.readable p.formed.0 _ _ _ _ _ _ _ (omega arith) p.candidate).1.1 in record { formed = p.formed.0; indexed = p.formed.2; standing = (x.program, rw x.link x.before); few = p.few.0; count = p.few.1; memo = p.by_index }

pub found-requires : goal.found-requires
found-requires c = let p = c.requires in let K = c.seek_before-w.ensures.memo_stays.0.below in (p.formed.0, p.formed.1, all_same _ p.formed.1 (keeps_narrow (omega arith) (omega arith) K) (keeps_narrow (omega arith) (omega arith) K) p.formed.2)

pub returns-clause-sought : goal.returns-clause-sought
returns-clause-sought c = let p = c.requires in let y = c.if-p-eq0.false in let F = c.seek_before-w.ensures in
    λ rest z.
    let x = put_at_lem (omega arith) z in
    c.found.ensures _ _ _ rest (put_as (sym (none_found _ c.args.book.now.readable p.formed.0 _ _ _ _ _ rest x _ _ _ c.next_of.ensures.0 c.in_default.is)) (F.finds _ _ x.program (rw x.link x.before)))
