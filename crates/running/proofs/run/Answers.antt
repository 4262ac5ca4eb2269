use mathlib.Core.Path.{refl, sym}
use borrow.Author.Rules.{rules}
use Rattle.running.proofs.RunEnds.{midway_start, run_on_lem, run_over}
use Rattle.running.proofs.run.Goals as goal

pub loop-ending-init : goal.loop-ending-init
loop-ending-init c = let p = c.requires in (refl, refl, midway_start _ _ _ _ _ _ _ _ p.tally_value p.taken p.stands p.all_indexed p.out_value)

pub turn-requires : goal.turn-requires
turn-requires c = let p = c.requires in let I = c.loop-ending.invariant in record { taken = rw I.1 p.taken; midway = (_, rw (sym I.1) at I.2) }

pub returns-in-Over : goal.returns-in-Over
returns-in-Over c = let I = c.loop-ending.invariant in let t = run_over _ _ (rw I.1 at (c.turn.ensures _ (rw (sym I.1) at I.2))) c.in-Over.is in record { ending_value = t.0; out_after = t.1 }

pub loop-ending-smaller : goal.loop-ending-smaller
loop-ending-smaller c = let I = c.loop-ending.invariant in (run_on_lem _ _ _ (rw I.1 at (c.turn.ensures _ (rw (sym I.1) at I.2))) c.in-On.is).1

pub loop-ending-preserved : goal.loop-ending-preserved
loop-ending-preserved c = let I = c.loop-ending.invariant in (search rules, search rules, (run_on_lem _ _ _ (rw I.1 at (c.turn.ensures _ (rw (sym I.1) at I.2))) c.in-On.is).0)
