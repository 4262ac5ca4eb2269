use mathlib.Core.Path.{sym, ◌∙◌}
use borrow.Author.Tests.{eq-eqb}
use Rattle.book.specs.Scope.{body_scope}
use Rattle.records.proofs.BodyLaws.{body_some, body_none}
use Rattle.scope.proofs.body_scope.Goals as goal

pub returns-in-Some : goal.returns-in-Some
unfolding body_scope
returns-in-Some c = λ d h.
    let s = body_some c.args.rec _ (sym c.body.ensures ∙ c.in-Some.is) in
    rw (body_scope, eq-eqb _ _ s.0, s.1) (c.part_scope.ensures d (rw s.1 at h s.0))

pub returns-in-None : goal.returns-in-None
unfolding body_scope
returns-in-None c = λ d h. rw (body_scope, body_none c.args.rec (sym c.body.ensures ∙ c.in-None.is))
