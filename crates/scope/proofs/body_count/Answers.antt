use mathlib.Core.Path.{sym, ◌∙◌}
use borrow.Author.Tests.{eq-eqb}
use Rattle.records.proofs.BodyLaws.{body_some, body_none}
use Rattle.scope.specs.Parts.{bodies}
use Rattle.scope.proofs.body_count.Goals as goal

pub returns-in-Some : goal.returns-in-Some
unfolding bodies
returns-in-Some c = let s = body_some c.args.rec _ (sym c.body.ensures ∙ c.in-Some.is) in rw (bodies, eq-eqb _ _ s.0)

pub returns-in-None : goal.returns-in-None
unfolding bodies
returns-in-None c = rw (bodies, body_none c.args.rec (sym c.body.ensures ∙ c.in-None.is))
