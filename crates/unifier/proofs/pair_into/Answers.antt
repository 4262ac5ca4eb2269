use native.Mathlib.Omega.{arith}
use mathlib.Core.Path.{refl}
use Rattle.unifier.specs.PairRuns.{PairedInto.unpaired}
use Rattle.unifier.proofs.PairPlaces.{both_same, both_apart, both_count, deep, into_none, into_over, into_hand, into_push}
use Rattle.unifier.proofs.pair_into.Goals as goal

pub returns-then-both-symbol_and_count : goal.returns-then-both-symbol_and_count
returns-then-both-symbol_and_count c = unpaired refl (both_apart _ _ _ _ _ c.symbol_and_count-both.ensures c.symbol_and_count.ensures c.if-both-symbol_and_count.true)

pub returns-then-m-eq0 : goal.returns-then-m-eq0
returns-then-m-eq0 c = let p = c.requires in let B = both_same _ _ _ _ _ c.symbol_and_count-both.ensures c.symbol_and_count.ensures c.if-both-symbol_and_count.false in into_none _ _ p.slots.room _ _ p.paired p.count_nonzero c.args.book.now.readable _ _ _ _ _ p.term_at.0 p.term_at.1 B.0 B.1 _ (both_count _ _ _ _ _ c.symbol_and_count-both.ensures c.symbol_and_count.ensures) c.if-m-eq0.true

pub returns-then-s-m-gt256 : goal.returns-then-s-m-gt256
returns-then-s-m-gt256 c = let p = c.requires in let B = both_same _ _ _ _ _ c.symbol_and_count-both.ensures c.symbol_and_count.ensures c.if-both-symbol_and_count.false in into_over _ _ p.slots.room _ _ p.paired p.count_nonzero c.args.book.now.readable _ _ _ _ _ p.term_at.0 p.term_at.1 B.0 B.1 _ (both_count _ _ _ _ _ c.symbol_and_count-both.ensures c.symbol_and_count.ensures) (omega (arith, c.if-s-m-gt256.true, c.if-s-eq1.true))

pub returns-then-s-eq1 : goal.returns-then-s-eq1
returns-then-s-eq1 c = let p = c.requires in let B = both_same _ _ _ _ _ c.symbol_and_count-both.ensures c.symbol_and_count.ensures c.if-both-symbol_and_count.false in into_hand _ _ p.slots.room _ _ p.paired p.count_nonzero c.args.book.now.readable _ _ _ _ _ p.term_at.0 p.term_at.1 B.0 B.1 _ (both_count _ _ _ _ _ c.symbol_and_count-both.ensures c.symbol_and_count.ensures) c.if-m-eq0.false (omega (arith, c.if-s-m-gt256.false, c.if-s-eq1.true)) _ _ c.field-first.ensures.0 c.field-other.ensures.0 c.if-s-eq1.true

pub returns-then-later-m-gt256 : goal.returns-then-later-m-gt256
returns-then-later-m-gt256 c = let p = c.requires in let B = both_same _ _ _ _ _ c.symbol_and_count-both.ensures c.symbol_and_count.ensures c.if-both-symbol_and_count.false in into_over _ _ p.slots.room _ _ p.paired p.count_nonzero c.args.book.now.readable _ _ _ _ _ p.term_at.0 p.term_at.1 B.0 B.1 _ (both_count _ _ _ _ _ c.symbol_and_count-both.ensures c.symbol_and_count.ensures) (omega (arith, c.if-later-m-gt256.true))

pub overflow_mul-at : goal.overflow_mul-at
overflow_mul-at c = let p = c.requires in omega (arith, deep _ _ p.slots.room _ _ p.paired p.count_nonzero)

pub overflow_add-at : goal.overflow_add-at
overflow_add-at c = let p = c.requires in omega (arith, deep _ _ p.slots.room _ _ p.paired p.count_nonzero)

pub bounds-ws-at : goal.bounds-ws-at
bounds-ws-at c = let p = c.requires in omega (arith, deep _ _ p.slots.room _ _ p.paired p.count_nonzero)

pub bounds-ws-at-2 : goal.bounds-ws-at-2
bounds-ws-at-2 c = let p = c.requires in omega (arith, deep _ _ p.slots.room _ _ p.paired p.count_nonzero)

pub overflow_add-result : goal.overflow_add-result
overflow_add-result c = let p = c.requires in omega (arith, deep _ _ p.slots.room _ _ p.paired p.count_nonzero)

pub returns : goal.returns
returns c = let p = c.requires in let B = both_same _ _ _ _ _ c.symbol_and_count-both.ensures c.symbol_and_count.ensures c.if-both-symbol_and_count.false in into_push _ _ p.slots.room _ _ p.paired p.count_nonzero c.args.book.now.readable _ _ _ _ _ p.term_at.0 p.term_at.1 B.0 B.1 _ (both_count _ _ _ _ _ c.symbol_and_count-both.ensures c.symbol_and_count.ensures) c.if-m-eq0.false c.if-later-m-gt256.false _ _ c.field-first.ensures.0 c.field-other.ensures.0 p.slots.size c.if-s-eq1.false
