use native.Mathlib.Omega.{arith}
use mathlib.Core.Path.{refl, ◌∙◌}
use Prim.Native.Nat.{◌-◌}
use Rattle.branch.proofs.EntryLaws.{tie_at, ties_none, ties_more, ties_all}
use Rattle.branch.proofs.put_ties.Goals as goal

pub loop-i-init : goal.loop-i-init
loop-i-init c = ties_none _ _ _ _ _ _

pub field-o-requires : goal.field-o-requires
field-o-requires c = let p = c.requires in record { r_bound = (tie_at _ _ _ _ _ _ (c.loop-i.i - 1) p.tie_run (omega arith)).0; k_bound = omega arith }

pub field-q-requires : goal.field-q-requires
field-q-requires c = let p = c.requires in record { r_bound = (tie_at _ _ _ _ _ _ (c.loop-i.i - 1) p.tie_run (omega arith)).0; k_bound = omega arith }

pub overflow_add-at : goal.overflow_add-at
overflow_add-at c = let p = c.requires in omega (arith, c.field-o.ensures.1, p.n_bound.0)

pub overflow_add-ws : goal.overflow_add-ws
overflow_add-ws c = let p = c.requires in let x = tie_at _ _ _ _ _ _ (c.loop-i.i - 1) p.tie_run (omega arith) in omega (arith, x.2, c.field-q.ensures.0, p.n_bound.0)

pub overflow_add-ws-in-loop-i : goal.overflow_add-ws-in-loop-i
overflow_add-ws-in-loop-i c = let p = c.requires in let x = tie_at _ _ _ _ _ _ (c.loop-i.i - 1) p.tie_run (omega arith) in omega (arith, x.2, c.field-q.ensures.0, p.n_bound.0)

pub bounds-ws-at : goal.bounds-ws-at
bounds-ws-at c = let p = c.requires in let x = tie_at _ _ _ _ _ _ (c.loop-i.i - 1) p.tie_run (omega arith) in omega (arith, x.1, c.field-o.ensures.0, p.n_bound.0)

pub loop-i-preserved : goal.loop-i-preserved
loop-i-preserved c = ties_more _ _ _ _ _ _ _ _ _ _ _ c.loop-i.invariant refl c.loop-i-test.true c.loop-i.auto.i c.field-o.ensures.0 c.field-q.ensures.0

pub returns : goal.returns
returns c = c.loop-i.invariant ∙ ties_all _ _ _ _ _ _ _ (omega arith)
