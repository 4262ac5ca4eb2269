use native.Mathlib.Omega.{arith}
use Rattle.pointing.specs.Marks.{bump_all}
use Rattle.pointing.proofs.ReadLaws.{term_held, link_held, and_held, suppose_held, clause_held, term_points, link_points, and_points, suppose_points, clause_points, variable_points, none_points}
use Rattle.pointing.proofs.bump_record.Goals as goal

pub returns-in_default : goal.returns-in_default
unfolding bump_all
returns-in_default c = rw (none_points c.args.r c.in_default.ensures.0)

pub bump_term-requires : goal.bump_term-requires
bump_term-requires c = let w = c.requires in let l = w.1 in let x = term_held c.args.r _ c.in-Ok.ensures.0 w.0 w.2 c.in-Term.is in omega arith

pub bump_link-requires : goal.bump_link-requires
bump_link-requires c = let w = c.requires in let l = w.1 in let x = link_held c.args.r _ c.in-Ok.ensures.0 w.0 w.2 c.in-Link.is in omega arith

pub bump_and-requires : goal.bump_and-requires
bump_and-requires c =
    let w = c.requires in let l = w.1 in let x = and_held c.args.r _ c.in-Ok.ensures.0 w.0 w.2 c.in-And.is in
    let a = x.0 in let b = x.1 in (omega arith, omega arith)

pub bump_suppose-requires : goal.bump_suppose-requires
bump_suppose-requires c =
    let w = c.requires in let l = w.1 in let x = suppose_held c.args.r _ c.in-Ok.ensures.0 w.0 w.2 c.in-Suppose.is in
    let a = x.0 in let b = x.1 in (omega arith, omega arith)

pub bump_clause-requires : goal.bump_clause-requires
bump_clause-requires c =
    let w = c.requires in let l = w.1 in let x = clause_held c.args.r _ c.in-Ok.ensures.0 w.0 w.2 c.in-Clause.is in
    let a = x.0 in let b = x.1 in (omega arith, omega arith, λ f. let d = x.2 f in omega arith)

pub returns-in-Term : goal.returns-in-Term
returns-in-Term c = rw (term_points c.args.r _ c.in-Ok.ensures.0 c.in-Term.is) c.bump_term.ensures

pub returns-in-Link : goal.returns-in-Link
returns-in-Link c = rw (link_points c.args.r _ c.in-Ok.ensures.0 c.in-Link.is) c.bump_link.ensures

pub returns-in-And : goal.returns-in-And
returns-in-And c = rw (and_points c.args.r _ c.in-Ok.ensures.0 c.in-And.is) c.bump_and.ensures

pub returns-in-Suppose : goal.returns-in-Suppose
returns-in-Suppose c = rw (suppose_points c.args.r _ c.in-Ok.ensures.0 c.in-Suppose.is) c.bump_suppose.ensures

pub returns-in-Clause : goal.returns-in-Clause
returns-in-Clause c = rw (clause_points c.args.r _ c.in-Ok.ensures.0 c.in-Clause.is) c.bump_clause.ensures

pub returns-in-Variable : goal.returns-in-Variable
unfolding bump_all
returns-in-Variable c = rw (variable_points c.args.r _ c.in-Ok.ensures.0 c.in-Variable.is)
