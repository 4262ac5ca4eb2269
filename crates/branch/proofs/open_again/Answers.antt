use native.Mathlib.Omega.{arith}
use mathlib.Core.Path.{refl, sym, ◌∙◌}
use Rattle.branch.proofs.EntryLaws.{undo_turn, small_turn, undo_none}
use Rattle.branch.proofs.open_again.Goals as goal

pub overflow_cast-v-in-loop-i : goal.overflow_cast-v-in-loop-i
overflow_cast-v-in-loop-i c = let x = small_turn _ _ _ c.loop-i.ws refl c.loop-i-test.true c.loop-i.invariant.0 in omega (arith, x.0)

pub offset_bounds-ws-v : goal.offset_bounds-ws-v
offset_bounds-ws-v c = let x = small_turn _ _ _ c.loop-i.ws refl c.loop-i-test.true c.loop-i.invariant.0 in omega (arith, x.0)

pub bounds-ws-v : goal.bounds-ws-v
bounds-ws-v c = let x = small_turn _ _ _ c.loop-i.ws refl c.loop-i-test.true c.loop-i.invariant.0 in omega (arith, x.0)

pub loop-i-preserved : goal.loop-i-preserved
loop-i-preserved c = let i = c.loop-i.invariant in ((small_turn _ _ _ c.loop-i.ws refl c.loop-i-test.true i.0).1, sym (undo_turn _ _ _ c.loop-i.ws refl c.loop-i-test.true) ∙ i.1)

pub returns : goal.returns
returns c = let i = c.loop-i.invariant in sym (undo_none _ _ _ c.loop-i-test.false) ∙ i.1
