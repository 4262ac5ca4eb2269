use native.Mathlib.Omega.{arith}
use mathlib.Core.Path.{refl}
use Rattle.words.proofs.SlotLaws.{variable_open, variable_term, variable_on}
use Rattle.words.proofs.read_variable.Goals as goal

pub loop-made-init : goal.loop-made-init
loop-made-init c = (c.requires.v_lt_made, refl)

pub offset_bounds-ws-at : goal.offset_bounds-ws-at
offset_bounds-ws-at c = omega (arith, c.loop-made.invariant.0, c.requires.slots.room)

pub bounds-ws-at : goal.bounds-ws-at
bounds-ws-at c = omega (arith, c.loop-made.invariant.0, c.requires.slots.room, c.requires.slots.size)

pub returns-then-x-ge4096 : goal.returns-then-x-ge4096
returns-then-x-ge4096 c = let p = c.requires in let i = c.loop-made.invariant in variable_term _ c.args.book.now.readable _ _ p.slots _ _ i.0 i.1 c.if-x-ge4096.true

pub overflow_add-result : goal.overflow_add-result
overflow_add-result c = omega (arith, c.loop-made.invariant.0, c.requires.slots.room)

pub returns-then-x-eq0 : goal.returns-then-x-eq0
returns-then-x-eq0 c = let p = c.requires in let i = c.loop-made.invariant in variable_open _ c.args.book.now.readable _ _ p.slots _ _ i.0 i.1 c.if-x-eq0.true

pub loop-made-smaller : goal.loop-made-smaller
loop-made-smaller c = let p = c.requires in let i = c.loop-made.invariant in (variable_on _ c.args.book.now.readable _ _ p.slots _ _ i.0 i.1 c.if-x-eq0.false (omega (arith, c.if-x-ge4096.false))).0

pub loop-made-preserved : goal.loop-made-preserved
loop-made-preserved c = let p = c.requires in
    let i = c.loop-made.invariant in
    let o = variable_on _ c.args.book.now.readable _ _ p.slots _ _ i.0 i.1 c.if-x-eq0.false (omega (arith, c.if-x-ge4096.false)) in
    (omega (arith, o.0, i.0), o.1)
