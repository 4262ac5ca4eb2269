use native.Mathlib.Omega.{arith}
use Rattle.words.proofs.ReadLaws.{in_book}
use Rattle.looks.proofs.RunLaws.{run_here}
use Rattle.looks.proofs.ValueLaws.{known_open, known_term}
use Rattle.unifier.proofs.PairSteps.{step_same, step_look, step_look', two_ready, step_two, step_terms}
use Rattle.unifier.proofs.pair_step.Goals as goal

pub value_of-requires : goal.value_of-requires
value_of-requires c = let p = c.requires in record { slots = p.pairs.slots; link_at = run_here _ _ p.pairs.slots.room _ _ _ p.count_nonzero p.pairs.listed.left }

pub value_of-requires-in-At : goal.value_of-requires-in-At
value_of-requires-in-At c = let p = c.requires in record { slots = p.pairs.slots; link_at = run_here _ _ p.pairs.slots.room _ _ _ p.count_nonzero p.pairs.listed.right }

pub pair_into-requires : goal.pair_into-requires
pair_into-requires c = let p = c.requires in record { slots = p.pairs.slots; paired = p.pairs.listed; count_nonzero = p.count_nonzero; term_at = ((known_term c.value_of.ensures _ _ c.in-At.is).term, (known_term c.value_of-in-At.ensures _ _ c.in-At-value_of.is).term) }

pub overflow_add-result : goal.overflow_add-result
overflow_add-result c = let p = c.requires in let t = (known_term c.value_of.ensures _ _ c.in-At.is).term in omega (arith, (in_book _ c.args.book.now.readable _ t.term.0).1, t.base)

pub overflow_mul-result : goal.overflow_mul-result
overflow_mul-result c = let p = c.requires in let t = (known_term c.value_of.ensures _ _ c.in-At.is).term in omega (arith, (in_book _ c.args.book.now.readable _ t.term.0).1, t.base)

pub overflow_add-result-in-Open-value_of : goal.overflow_add-result-in-Open-value_of
overflow_add-result-in-Open-value_of c = let p = c.requires in let t = (known_term c.value_of.ensures _ _ c.in-At.is).term in omega (arith, (in_book _ c.args.book.now.readable _ t.term.0).1, t.base)

pub value_of-requires-in-Open : goal.value_of-requires-in-Open
value_of-requires-in-Open c = let p = c.requires in record { slots = p.pairs.slots; link_at = run_here _ _ p.pairs.slots.room _ _ _ p.count_nonzero p.pairs.listed.right }

pub overflow_add-result-in-At-value_of-2 : goal.overflow_add-result-in-At-value_of-2
overflow_add-result-in-At-value_of-2 c = let p = c.requires in let t = (known_term c.value_of-in-Open.ensures _ _ c.in-At-value_of-2.is).term in omega (arith, (in_book _ c.args.book.now.readable _ t.term.0).1, t.base)

pub overflow_mul-result-in-At-value_of-2 : goal.overflow_mul-result-in-At-value_of-2
overflow_mul-result-in-At-value_of-2 c = let p = c.requires in let t = (known_term c.value_of-in-Open.ensures _ _ c.in-At-value_of-2.is).term in omega (arith, (in_book _ c.args.book.now.readable _ t.term.0).1, t.base)

pub overflow_add-result-in-At-value_of-2-2 : goal.overflow_add-result-in-At-value_of-2-2
overflow_add-result-in-At-value_of-2-2 c = let p = c.requires in let t = (known_term c.value_of-in-Open.ensures _ _ c.in-At-value_of-2.is).term in omega (arith, (in_book _ c.args.book.now.readable _ t.term.0).1, t.base)

pub returns-then-v-w : goal.returns-then-v-w
returns-then-v-w c = let p = c.requires in step_same _ c.args.book.now.readable _ _ _ _ p.pairs p.count_nonzero _ _ (known_open c.value_of.ensures _ c.in-Open.is) (known_open c.value_of-in-Open.ensures _ c.in-Open-value_of-2.is) c.if-v-w.true

pub bind_two-requires : goal.bind_two-requires
bind_two-requires c = let p = c.requires in two_ready _ c.args.book.now.readable _ _ _ _ p.pairs p.count_nonzero _ _ (known_open c.value_of.ensures _ c.in-Open.is) (known_open c.value_of-in-Open.ensures _ c.in-Open-value_of-2.is)

pub overflow_add-result-in-Open-value_of-2 : goal.overflow_add-result-in-Open-value_of-2
overflow_add-result-in-Open-value_of-2 c = let p = c.requires in omega (arith, (two_ready _ c.args.book.now.readable _ _ _ _ p.pairs p.count_nonzero _ _ (known_open c.value_of.ensures _ c.in-Open.is) (known_open c.value_of-in-Open.ensures _ c.in-Open-value_of-2.is)).4)

pub returns-in-At-value_of : goal.returns-in-At-value_of
returns-in-At-value_of c = let p = c.requires in step_terms _ c.args.book.now.readable _ _ _ _ p.pairs p.count_nonzero _ _ _ _ (known_term c.value_of.ensures _ _ c.in-At.is) (known_term c.value_of-in-At.ensures _ _ c.in-At-value_of.is) _ _ c.pair_into.ensures

pub returns-in-Open-value_of : goal.returns-in-Open-value_of
returns-in-Open-value_of c = let p = c.requires in step_look' _ c.args.book.now.readable _ _ _ _ p.pairs p.count_nonzero _ (known_open c.value_of-in-At.ensures _ c.in-Open-value_of.is) _ _ (known_term c.value_of.ensures _ _ c.in-At.is)

pub returns-in-At-value_of-2 : goal.returns-in-At-value_of-2
returns-in-At-value_of-2 c = let p = c.requires in step_look _ c.args.book.now.readable _ _ _ _ p.pairs p.count_nonzero _ (known_open c.value_of.ensures _ c.in-Open.is) _ _ (known_term c.value_of-in-Open.ensures _ _ c.in-At-value_of-2.is)

pub returns-else-v-w : goal.returns-else-v-w
returns-else-v-w c = let p = c.requires in step_two _ c.args.book.now.readable _ _ _ _ p.pairs p.count_nonzero _ _ (known_open c.value_of.ensures _ c.in-Open.is) (known_open c.value_of-in-Open.ensures _ c.in-Open-value_of-2.is) c.if-v-w.false _ c.bind_two.ensures
