use mathlib.Core.Path.{◌∙◌}
use native.Mathlib.Omega.{arith}
use Rattle.scope.proofs.PartLaws.{question_is}
use Rattle.scope.proofs.ShapedLaws.{asked_run, last_below, asked_there}
use Rattle.scope.proofs.question_scope.Goals as goal

pub own_clauses-clauses-requires : goal.own_clauses-clauses-requires
own_clauses-clauses-requires c = (c.requires.0, (asked_run c.args.book.now c.requires.0 c.args.rec c.requires.1).1, asked_there c.args.book.now c.requires.0 c.args.rec c.requires.1)

pub part_scope-requires : goal.part_scope-requires
part_scope-requires c = let x = (asked_run c.args.book.now c.requires.0 c.args.rec c.requires.1).0 in
    let b = last_below c.args.book.now c.requires.0 in (c.requires.0, omega arith)

pub returns : goal.returns
returns c =
    c.lower.ensures ∙ question_is c.args.book.now c.args.rec _ _ c.requires.1 c.own_clauses-clauses.ensures
    (c.part_scope.ensures _ (asked_run c.args.book.now c.requires.0 c.args.rec c.requires.1).0)
