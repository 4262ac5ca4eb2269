use mathlib.Core.Path.{sym, ◌∙◌}
use native.Mathlib.Omega.{arith}
use Rattle.following.proofs.PlainLaws.{clause_variables, clause_bare}
use Rattle.following.proofs.plain_clause.Goals as goal

pub returns-then-field-ne0 : goal.returns-then-field-ne0
returns-then-field-ne0 c = clause_variables _ _ (λ e. c.if-field-ne0.true (c.field.ensures.0 ∙ e))

pub returns : goal.returns
returns c = let e = clause_bare c.args.book.now.bytes.now c.args.c (sym c.field.ensures.0 ∙ c.if-field-ne0.false) in grind arith
