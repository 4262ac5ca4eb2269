use Rattle.steps.proofs.EnterLaws.{slots_ready, entering_ends}
use Rattle.steps.proofs.enter.Goals as goal

pub unify-requires-clause-slots : goal.unify-requires-clause-slots
unify-requires-clause-slots c = let p = c.requires in slots_ready _ c.args.book.now.readable _ _ _ _ _ _ _ p.enter_ready _ _ _ _ _ c.field-n.ensures.0 c.field-first.ensures.0 c.field-t.ensures.0 c.clear_words.ensures c.put_ties.ensures

pub returns : goal.returns
returns c = let p = c.requires in entering_ends _ c.args.book.now.readable _ _ _ _ _ _ _ p.enter_ready _ _ _ _ _ _ _ _ _ _ _ _ c.field-n.ensures.0 c.field-first.ensures.0 c.field-t.ensures.0 c.field-h.ensures.0 c.field-m.ensures.0 c.field-from.ensures.0 c.field-other.ensures.0 c.clear_words.ensures c.put_ties.ensures c.unify.ensures
