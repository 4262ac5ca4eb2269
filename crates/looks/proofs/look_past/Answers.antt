use native.Mathlib.Omega.{arith}
use mathlib.Core.Path.{refl}
use Rattle.looks.proofs.RunLaws.{deep, past_hand, past_none, pop_most, past_pop}
use Rattle.looks.proofs.look_past.Goals as goal

pub returns-then-s-gt1 : goal.returns-then-s-gt1
returns-then-s-gt1 c = let p = c.requires in past_hand _ _ p.slots.room _ _ p.listed c.if-s-gt1.true

pub returns-then-s-eq0 : goal.returns-then-s-eq0
returns-then-s-eq0 c = let p = c.requires in past_none _ _ p.slots.room _ _ p.listed c.if-s-gt1.false c.if-s-eq0.true

pub overflow_add-x : goal.overflow_add-x
overflow_add-x c = let p = c.requires in omega (arith, deep _ _ p.slots.room _ _ p.listed)

pub bounds-ws-s : goal.bounds-ws-s
bounds-ws-s c = let p = c.requires in omega (arith, p.slots.size, deep _ _ p.slots.room _ _ p.listed)

pub overflow_sub-result-3 : goal.overflow_sub-result-3
overflow_sub-result-3 c = let p = c.requires in pop_most _ _ p.slots.room _ _ p.listed (omega arith) _ refl

pub returns : goal.returns
returns c = let p = c.requires in past_pop _ _ p.slots.room _ _ p.listed (omega arith) _ refl c.if-s-gt1.false
