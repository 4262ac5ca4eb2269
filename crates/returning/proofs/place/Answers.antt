use native.Mathlib.Omega.{arith}
use mathlib.Core.Path.{refl}
use Rattle.seeking.proofs.SeekOwn.{last_in}
use Rattle.branch.proofs.FromScoped.{own_ready}
use Rattle.words.proofs.ReadLaws.{in_book}
use Rattle.returning.proofs.PlaceLaws.{own_link, own_place, put_large, put_inside, put_link, put_place}
use Rattle.returning.proofs.place.Goals as goal

pub last-requires : goal.last-requires
last-requires c = (own_ready _ c.requires.accepted).some

pub field-first-requires-clause-r_bound : goal.field-first-requires-clause-r_bound
field-first-requires-clause-r_bound c = last_in _ c.args.book.now.readable _ (own_ready _ c.requires.accepted) _ 0 0 c.last.ensures

pub overflow_add-first : goal.overflow_add-first
overflow_add-first c = let p = c.requires in let z = own_link _ c.args.book.now.readable p.accepted _ _ _ _ _ _ _ p.leads.clause c.if-x-eq0.true _ _ c.last.ensures c.field-first.ensures.0 in omega (arith, (in_book _ c.args.book.now.readable _ z).1)

pub field-requires-clause-r_bound : goal.field-requires-clause-r_bound
field-requires-clause-r_bound c = let p = c.requires in own_link _ c.args.book.now.readable p.accepted _ _ _ _ _ _ _ p.leads.clause c.if-x-eq0.true _ _ c.last.ensures c.field-first.ensures.0

pub returns-then-x-eq0 : goal.returns-then-x-eq0
returns-then-x-eq0 c = let p = c.requires in own_place _ c.args.book.now.readable p.accepted _ _ _ _ _ _ _ p.leads.clause c.if-x-eq0.true _ _ _ c.last.ensures c.field-first.ensures.0 c.field.ensures.0

pub overflow_sub-w : goal.overflow_sub-w
overflow_sub-w c = let p = c.requires in omega (arith, put_large _ c.args.book.now.readable p.accepted _ _ _ _ _ _ _ p.leads.clause (omega (arith, c.if-x-eq0.false)))

pub field-first-requires-2-clause-r_bound : goal.field-first-requires-2-clause-r_bound
field-first-requires-2-clause-r_bound c = let p = c.requires in put_inside _ c.args.book.now.readable p.accepted _ _ _ _ _ _ _ p.leads.clause (omega (arith, c.if-x-eq0.false)) _ refl

pub overflow_add-first-2 : goal.overflow_add-first-2
overflow_add-first-2 c = let p = c.requires in let z = put_link _ c.args.book.now.readable p.accepted _ _ _ _ _ _ _ p.leads.clause (omega (arith, c.if-x-eq0.false)) _ _ refl c.field-first-2.ensures.0 in omega (arith, (in_book _ c.args.book.now.readable _ z).1)

pub field-requires-2-clause-r_bound : goal.field-requires-2-clause-r_bound
field-requires-2-clause-r_bound c = let p = c.requires in put_link _ c.args.book.now.readable p.accepted _ _ _ _ _ _ _ p.leads.clause (omega (arith, c.if-x-eq0.false)) _ _ refl c.field-first-2.ensures.0

pub returns : goal.returns
returns c = let p = c.requires in put_place _ c.args.book.now.readable p.accepted _ _ _ _ _ _ _ p.leads.clause (omega (arith, c.if-x-eq0.false)) _ _ _ refl c.field-first-2.ensures.0 c.field-2.ensures.0
