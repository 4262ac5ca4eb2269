use native.Mathlib.Omega.{arith}
use mathlib.Core.Path.{refl}
use Rattle.unifier.proofs.PairPlaces.{deep, past_hand, past_none, pop_most, past_pop}
use Rattle.unifier.proofs.pair_past.Goals as goal

pub returns-then-s-gt1 : goal.returns-then-s-gt1
returns-then-s-gt1 c = let p = c.requires in past_hand _ _ p.slots.room _ _ p.paired p.count_nonzero c.if-s-gt1.true

pub returns-then-s-eq0 : goal.returns-then-s-eq0
returns-then-s-eq0 c = let p = c.requires in past_none _ _ p.slots.room _ _ p.paired p.count_nonzero c.if-s-gt1.false c.if-s-eq0.true

pub overflow_mul-at : goal.overflow_mul-at
overflow_mul-at c = let p = c.requires in omega (arith, deep _ _ p.slots.room _ _ p.paired p.count_nonzero)

pub overflow_add-at : goal.overflow_add-at
overflow_add-at c = let p = c.requires in omega (arith, deep _ _ p.slots.room _ _ p.paired p.count_nonzero)

pub bounds-ws-at : goal.bounds-ws-at
bounds-ws-at c = let p = c.requires in omega (arith, deep _ _ p.slots.room _ _ p.paired p.count_nonzero)

pub bounds-ws-at-2 : goal.bounds-ws-at-2
bounds-ws-at-2 c = let p = c.requires in omega (arith, deep _ _ p.slots.room _ _ p.paired p.count_nonzero)

pub overflow_sub-result-3 : goal.overflow_sub-result-3
overflow_sub-result-3 c = let p = c.requires in pop_most _ _ p.slots.room _ _ p.paired p.count_nonzero (omega arith) _ _ refl refl

pub returns : goal.returns
returns c = let p = c.requires in past_pop _ _ p.slots.room _ _ p.paired p.count_nonzero (omega arith) _ _ refl refl c.if-s-gt1.false
