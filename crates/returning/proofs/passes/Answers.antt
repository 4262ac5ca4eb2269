use native.Mathlib.Omega.{arith}
use mathlib.Core.Path.{ap}
use Rattle.returning.proofs.TryNeeds.{clause_inside}
use Rattle.returning.proofs.PassLaws.{clash_ready}
use Rattle.returning.proofs.passes.Goals as goal

pub field-requires-clause-r_bound : goal.field-requires-clause-r_bound
field-requires-clause-r_bound c = let p = c.requires in clause_inside _ c.args.book.now.readable p.accepted _ _ _ _ p.to_clause.1 _ c.place-p.ensures

pub clashes-requires : goal.clashes-requires
clashes-requires c = let p = c.requires in let x = clash_ready _ c.args.book.now.readable p.accepted _ _ _ _ p.to_clause.1 _ (p.first_is _ c.in-Some.is) _ (ap (λ z. z.clause) c.place-p.ensures) (rw (← c.field.ensures.0) (omega (arith, c.if-x-field-gt2048.false))) in record { c_bound = x.0; le_w = x.1 }
