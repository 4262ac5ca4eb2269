use native.Mathlib.Omega.{arith}
use borrow.Author.Rules.{rules}
use mathlib.Core.Path.{refl, ◌∙◌}
use Rattle.words.proofs.ReadLaws.{link_at, target_at, push_none, push_more, push_all}
use Rattle.words.proofs.push_terms.Goals as goal

pub field-first-requires : goal.field-first-requires
field-first-requires c = let p = c.requires in record { r_bound = p.has_arguments.0; k_bound = search rules }

pub loop-i-init : goal.loop-i-init
loop-i-init c = push_none _ _ _ _ _ _

pub overflow_add-first : goal.overflow_add-first
overflow_add-first c = let p = c.requires in let f = c.field-first.ensures in omega (arith, f.1)

pub field-t-requires : goal.field-t-requires
field-t-requires c = let p = c.requires in let f = c.field-first.ensures in record { r_bound = link_at _ c.args.book.now.readable _ _ _ _ p.has_arguments f.0 p.m_value (omega arith); k_bound = search rules }

pub word_for-w-requires : goal.word_for-w-requires
word_for-w-requires c = let p = c.requires in let f = c.field-first.ensures in record { text_rec = target_at _ c.args.book.now.readable _ _ _ _ p.has_arguments f.0 p.m_value (omega arith) _ c.field-t.ensures.0; b_bound = p.b_bound.0 }

pub loop-i-preserved : goal.loop-i-preserved
loop-i-preserved c = push_more _ _ _ _ _ _ _ _ _ _ c.loop-i.invariant refl c.loop-i-test.true c.loop-i.auto.i (c.word_for-w.ensures ∙ rw c.field-t.ensures.0 refl)

pub returns : goal.returns
returns c = c.loop-i.invariant ∙ push_all _ _ _ _ _ _ _ (omega arith) ∙ rw c.field-first.ensures.0 refl
