use native.Mathlib.Omega.{arith}
use mathlib.Core.Path.{refl}
use Rattle.returning.proofs.RenewLaws.{atom_large}
use Rattle.returning.proofs.TryNeeds.{clause_inside, over, put_ready, enter_ready_is, units_fit, tried_memo, tried}
use Rattle.returning.proofs.MemoFrames.{memo_ended}
use Rattle.returning.proofs.try_next.Goals as goal

pub field-requires-clause-r_bound : goal.field-requires-clause-r_bound
field-requires-clause-r_bound c = let p = c.requires in clause_inside _ c.args.book.now.readable p.accepted.0 _ _ _ _ p.to_clause.1 _ c.place-p.ensures

pub returns-then-made-gt2048 : goal.returns-then-made-gt2048
returns-then-made-gt2048 c = record { tries = (λ r threads h X. let p = c.requires in over _ c.args.book.now.readable p.accepted.0 _ _ _ _ X _ c.place-p.ensures _ c.field.ensures.0 r _ p.left_nonzero (omega (arith, c.if-made-gt2048.true))); memo_stepped = memo_ended _ _ _ _ _ }

pub put_body-l-requires : goal.put_body-l-requires
put_body-l-requires c = let p = c.requires in record { c_bound = put_ready _ c.args.book.now.readable p.accepted.0 _ _ _ _ p.to_clause.1 _ c.place-p.ensures _ c.field.ensures.0 c.if-made-gt2048.false _ _ c.renew-n.ensures }

pub overflow_sub-x : goal.overflow_sub-x
overflow_sub-x c = omega (arith, atom_large _ _ _ _ _ c.requires.to_clause.1)

pub enter-u-requires : goal.enter-u-requires
enter-u-requires c = let p = c.requires in record { enter_ready = enter_ready_is _ c.args.book.now.readable p.accepted.0 _ _ _ _ p.to_clause.1 _ c.place-p.ensures _ c.field.ensures.0 c.if-made-gt2048.false _ _ c.renew-n.ensures _ _ c.put_body-l.ensures.ws_after c.put_body-l.ensures.value }

pub outcome-requires : goal.outcome-requires
outcome-requires c = let p = c.requires in omega (arith, c.ranges.left.fits, units_fit _ c.args.book.now.readable p.accepted.0 _ _ _ _ p.to_clause.1 _ c.place-p.ensures _ c.field.ensures.0 c.if-made-gt2048.false _ _ c.renew-n.ensures _ _ c.put_body-l.ensures.ws_after c.put_body-l.ensures.value _ _ _ p.left_nonzero c.enter-u.ensures)

pub returns : goal.returns
returns c = let p = c.requires in record { tries = (λ r threads h X. tried _ c.args.book.now.readable p.accepted.0 _ _ _ _ X _ c.place-p.ensures _ c.field.ensures.0 c.if-made-gt2048.false _ _ c.renew-n.ensures _ _ c.put_body-l.ensures.ws_after c.put_body-l.ensures.value _ _ _ p.left_nonzero c.enter-u.ensures r h _ refl _ c.outcome.ensures); memo_stepped = tried_memo _ c.args.book.now.readable p.accepted.0 _ _ _ _ p.to_clause.1 _ c.place-p.ensures _ c.field.ensures.0 c.if-made-gt2048.false _ _ c.renew-n.ensures _ _ c.put_body-l.ensures.ws_after c.put_body-l.ensures.value _ _ _ p.left_nonzero c.enter-u.ensures _ refl _ c.outcome.ensures p.memo }
