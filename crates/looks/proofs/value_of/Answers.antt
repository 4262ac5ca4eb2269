use borrow.Author.Tests.{eqb-true, eqb-false}
use mathlib.Core.Path.{sym, ◌∙◌}
use Rattle.looks.proofs.ValueLaws.{value_term, var_below, value_open, value_word}
use Rattle.looks.proofs.value_of.Goals as goal

pub returns-then-not-is : goal.returns-then-not-is
returns-then-not-is c = let p = c.requires in value_term _ c.args.book.now.readable _ _ p.slots _ _ p.link_at _ c.field-t.ensures.0 (eqb-false _ _ (sym c.is.ensures ∙ c.if-not-is.true))

pub read_variable-w-requires : goal.read_variable-w-requires
read_variable-w-requires c = let p = c.requires in record { slots = p.slots; v_lt_made = var_below _ c.args.book.now.readable _ _ p.slots _ _ p.link_at _ c.field-t.ensures.0 (eqb-true _ _ (sym c.is.ensures ∙ c.if-not-is.false)) _ c.field-o.ensures.0 }

pub returns-then-w-lt4096 : goal.returns-then-w-lt4096
returns-then-w-lt4096 c = let p = c.requires in value_open _ c.args.book.now.readable _ _ p.slots _ _ p.link_at _ c.field-t.ensures.0 (eqb-true _ _ (sym c.is.ensures ∙ c.if-not-is.false)) _ c.field-o.ensures.0 _ c.read_variable-w.ensures c.if-w-lt4096.true

pub returns : goal.returns
returns c = let p = c.requires in value_word _ c.args.book.now.readable _ _ p.slots _ _ p.link_at _ c.field-t.ensures.0 (eqb-true _ _ (sym c.is.ensures ∙ c.if-not-is.false)) _ c.field-o.ensures.0 _ c.read_variable-w.ensures c.if-w-lt4096.false
