use native.Mathlib.Omega.{arith}
use Rattle.words.proofs.StackLaws.{keeps_refl}
use Rattle.looks.proofs.RunLaws.{deep, into_none, into_over, into_push}
use Rattle.looks.proofs.look_into.Goals as goal

pub returns-then-m-eq0 : goal.returns-then-m-eq0
returns-then-m-eq0 c = let p = c.requires in record { keeps = keeps_refl _ _ _; looked_into = into_none _ _ p.slots.room _ _ p.listed _ _ _ c.field-m.ensures.0 c.if-m-eq0.true _ c.look_past.ensures }

pub look_last-requires : goal.look_last-requires
look_last-requires c = let p = c.requires in record { slots = p.slots; listed = (p.listed, c.if-s-eq1.true); term_at = (p.term_at, record { start = c.field-first.ensures.0; many = c.field-m.ensures.0; some = omega (arith, c.if-m-eq0.false) }) }

pub returns-then-rest-m-gt256 : goal.returns-then-rest-m-gt256
returns-then-rest-m-gt256 c = let p = c.requires in record { keeps = keeps_refl _ _ _; looked_into = into_over _ _ p.slots.room _ _ p.listed _ _ _ c.field-m.ensures.0 (omega (arith, c.if-rest-m-gt256.true)) }

pub overflow_add-ws-4 : goal.overflow_add-ws-4
overflow_add-ws-4 c = let p = c.requires in omega (arith, deep _ _ p.slots.room _ _ p.listed)

pub bounds-ws-s : goal.bounds-ws-s
bounds-ws-s c = let p = c.requires in omega (arith, p.slots.size, deep _ _ p.slots.room _ _ p.listed)

pub overflow_add-result : goal.overflow_add-result
overflow_add-result c = let p = c.requires in omega (arith, deep _ _ p.slots.room _ _ p.listed)

pub returns : goal.returns
returns c = let p = c.requires in let t = into_push _ _ p.slots.room _ _ p.listed c.args.book.now.readable _ _ p.term_at _ _ (record { start = c.field-first.ensures.0; many = c.field-m.ensures.0; some = omega (arith, c.if-m-eq0.false) }) c.if-rest-m-gt256.false p.slots.size c.if-s-eq1.false in record { keeps = t.0; looked_into = t.1 }
