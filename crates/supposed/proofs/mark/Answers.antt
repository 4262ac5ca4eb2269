use Prim.Native.Nat.{◌+◌, ◌/◌, ◌%◌, ◌^◌, ◌<◌}
use mathlib.Core.Path.{◌≡◌}
use lib.ListN.{get_or}
use native.Mathlib.Omega.{arith}
use Rattle.supposed.proofs.NoteLaws.{class_unit, class_some, bit_put, mark_put, mark_there}
use Rattle.supposed.proofs.mark.Goals as goal

pub nonzero_div-w : goal.nonzero_div-w
nonzero_div-w c = let s = c.args.s in omega (arith, class_unit s, class_some s)

pub overflow_add-ws : goal.overflow_add-ws
overflow_add-ws c = let a = c.args in
    let u = class_unit a.s in
    let e : get_or a.ws.now (4096 + a.b) 0 / 2 ^ (11 + a.s % 8) % 2 ≡ 0 = rw u at c.if-w-unit-eq0.true in
    let f : get_or a.ws.now (4096 + a.b) 0 < 4294967296 = omega arith in
    omega (arith, u, (bit_put a.s _ e).3 f)

pub returns-then-w-unit-eq0 : goal.returns-then-w-unit-eq0
returns-then-w-unit-eq0 c = let a = c.args in let u = class_unit a.s in rw u (mark_put a.ws.now a.b a.s (rw u at c.if-w-unit-eq0.true))

pub returns-else-w-unit-eq0 : goal.returns-else-w-unit-eq0
returns-else-w-unit-eq0 c = let a = c.args in let u = class_unit a.s in mark_there a.ws.now a.b a.s (rw u at c.if-w-unit-eq0.false)
