use mathlib.Core.Path.{◌≡◌, ◌∙◌, ap}
use native.Mathlib.Omega.{arith}
use Rattle.book.specs.Scan.{lower}
use Rattle.scope.proofs.PartLaws.{own_clause_is}
use Rattle.scope.proofs.ShapedLaws.{own_parts}
use Rattle.scope.specs.Lowest.{verdict_of}
use Rattle.scope.proofs.own_clause.Goals as goal

pub clause_ties-ties-requires : goal.clause_ties-ties-requires
clause_ties-ties-requires c = let x = own_parts c.args.book.now c.requires.0 c.args.r c.args.rec c.requires.1 c.requires.2 c.requires.3 in let a = x.0 in let b = x.1 in omega arith

pub part_scope-head-requires : goal.part_scope-head-requires
part_scope-head-requires c = let x = own_parts c.args.book.now c.requires.0 c.args.r c.args.rec c.requires.1 c.requires.2 c.requires.3 in
    let b = x.2 in let r = c.requires.1 in (c.requires.0, omega arith)

pub body_scope-rest-requires : goal.body_scope-rest-requires
body_scope-rest-requires c = let x = own_parts c.args.book.now c.requires.0 c.args.r c.args.rec c.requires.1 c.requires.2 c.requires.3 in
    let r = c.requires.1 in (c.requires.0, λ f. let b = x.3 f in omega arith)

pub returns : goal.returns
returns c =
    let x = own_parts c.args.book.now c.requires.0 c.args.r c.args.rec c.requires.1 c.requires.2 c.requires.3 in
    let t = verdict_of c.clause_ties-ties.result in
    let f = verdict_of c.fault-none.result in
    let e : verdict_of c.lower-3.result ≡ lower t (lower f (lower (verdict_of c.part_scope-head.result) (verdict_of c.body_scope-rest.result))) =
    c.lower-3.ensures ∙ ap (lower t) (c.lower-2.ensures ∙ ap (lower f) c.lower.ensures) in
    e ∙ own_clause_is c.args.book.now c.args.r c.args.rec _ _ _ _ c.requires.3 c.clause_ties-ties.ensures c.fault-none.ensures
    (c.part_scope-head.ensures c.args.r x.2) (c.body_scope-rest.ensures c.args.r x.3)
