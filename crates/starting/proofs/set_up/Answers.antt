use native.Mathlib.Omega.{arith}
use Rattle.starting.proofs.StartLaws.{last_ready, set_up_done}
use Rattle.starting.proofs.set_up.Goals as goal

pub last-last-requires : goal.last-last-requires
last-last-requires c = (last_ready _ c.requires.accepted).0

pub field-goal-requires : goal.field-goal-requires
field-goal-requires c = let A = c.requires.accepted in record { r_bound = rw c.last-last.ensures (last_ready _ A).1; k_bound = omega arith }

pub field-unknowns-requires : goal.field-unknowns-requires
field-unknowns-requires c = let A = c.requires.accepted in record { r_bound = rw c.last-last.ensures (last_ready _ A).1; k_bound = omega arith }

pub returns : goal.returns
returns c = let t = set_up_done _ c.requires.accepted _ _ _ _ (rw c.last-last.ensures at c.field-goal.ensures.0) (rw c.last-last.ensures at c.field-unknowns.ensures.0) c.put_cell.ensures in record { value = t.0; ws_after = t.1 }
