use mathlib.Core.Path.{sym, ◌∙◌}
use Rattle.book.specs.Pointing.{body_pointer, pointers_as}
use Rattle.book.specs.Records.{at, members}
use Rattle.pointing.proofs.MarkLaws.{marks_run, body_marks, no_body_marks}
use Rattle.pointing.proofs.bump_clause.Goals as goal

pub returns-in-Some : goal.returns-in-Some
unfolding pointers_as
returns-in-Some c =
    let t = c.args.r in
    marks_run _ _ (members (at t 2) (at t 3)) (body_pointer (at t 5) (at t 6)) _ _ _ _ c.bump_run.ensures c.from.ensures c.bump.ensures
    (body_marks t _ _ _ c.in-Some.p (sym c.body.ensures ∙ c.in-Some.is) c.from-in-Some.ensures c.bump-in-Some.ensures)

pub returns-in_default : goal.returns-in_default
unfolding pointers_as
returns-in_default c =
    let t = c.args.r in
    marks_run _ _ (members (at t 2) (at t 3)) (body_pointer (at t 5) (at t 6)) _ _ _ _ c.bump_run.ensures c.from.ensures c.bump.ensures
    (no_body_marks t _ (sym c.body.ensures ∙ c.in_default.is))
