use mathlib.Core.Path.{refl, sym, ◌∙◌}
use borrow.Author.Tests.{eqb-true, eqb-false}
use Rattle.words.proofs.ReadLaws.{word_for_var, word_for_term}
use Rattle.words.proofs.Book.word_for.Goals as goal

pub returns-then-is : goal.returns-then-is
returns-then-is c = rw (word_for_var _ _ _ (eqb-true _ _ (sym c.is.ensures ∙ c.if-is.true)), c.field-o.ensures.0) refl

pub returns : goal.returns
returns c = let a = c.args in sym (word_for_term a.self.now.bytes.now a.b a.t (eqb-false _ _ (sym c.is.ensures ∙ c.if-is.false)))
