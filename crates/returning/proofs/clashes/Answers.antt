use mathlib.Core.Path.{sym, ◌∙◌}
use borrow.Author.Tests.{eqb-true}
use Rattle.words.specs.Words.{rec_of}
use Rattle.returning.proofs.PassLaws.{clash_heads}
use Rattle.returning.proofs.clashes.Goals as goal

pub read-requires : goal.read-requires
unfolding rec_of
read-requires c = c.requires.le_w.1

pub returns-then-is : goal.returns-then-is
returns-then-is c = λ e. clash_heads _ _ _ _ _ _ _ c.field-h.ensures.0 c.field-l.ensures.0 c.field-u.ensures.0 c.requires.le_w.2 (eqb-true _ _ (sym c.is.ensures ∙ c.if-is.true)) _ _ _ _ c.read.ensures.0 c.read-then-is.ensures.0 c.read.ensures.1 c.read-then-is.ensures.1 (sym c.ne.ensures ∙ e)
