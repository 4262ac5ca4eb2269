use mathlib.Core.Path.{sym, ◌∙◌}
use native.Mathlib.Omega.{arith}
use Rattle.scope.proofs.PartLaws.{variable_own, clause_own, other_own, no_own}
use Rattle.scope.proofs.ShapedLaws.{clause_run}
use Rattle.scope.proofs.own_scope.Goals as goal

pub returns-in_default : goal.returns-in_default
returns-in_default c = sym (no_own c.args.book.now c.args.n c.args.r c.args.rec c.in_default.ensures.0)

pub clause_ties-requires : goal.clause_ties-requires
clause_ties-requires c = let x = clause_run c.args.r c.args.rec _ c.in-Ok.ensures.0 c.in-Clause.is c.requires in omega arith

pub returns-in-Variable : goal.returns-in-Variable
returns-in-Variable c = c.fault.ensures ∙ sym (variable_own c.args.n c.args.rec _ c.in-Ok.ensures.0 c.args.book.now c.args.r c.in-Variable.is)

pub returns-in-Clause : goal.returns-in-Clause
returns-in-Clause c = c.clause_ties.ensures ∙ sym (clause_own c.args.n c.args.rec _ c.in-Ok.ensures.0 c.args.book.now c.args.r c.in-Clause.is)

pub returns-in_default-kind : goal.returns-in_default-kind
returns-in_default-kind c =
    let d = c.in_default-kind in
    sym (other_own c.args.n c.args.rec _ c.in-Ok.ensures.0 c.args.book.now c.args.r d.not-Variable d.not-Clause)
