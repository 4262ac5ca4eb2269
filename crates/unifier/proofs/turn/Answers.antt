use native.Mathlib.Omega.{arith}
use mathlib.Core.List.{[]}
use Rattle.unifier.proofs.TurnLaws.{turn_into, past_ready, turn_past, turn_apart, turn_full, turn_ready, looked_ready, looked_done, looked_over, ends_most}
use Rattle.unifier.proofs.turn.Goals as goal

pub pair_past-requires : goal.pair_past-requires
pair_past-requires c = let p = c.requires in let x = past_ready _ _ _ _ _ _ _ p.pairs p.count_nonzero.1 _ c.pair_step.ensures _ c.in-Past.is in record { slots = x.0; paired = x.1; count_nonzero = p.count_nonzero.0 }

pub look_bind-u-requires : goal.look_bind-u-requires
look_bind-u-requires c = let p = c.requires in let x = turn_ready _ _ _ _ _ _ _ p.pairs p.count_nonzero.1 _ c.pair_step.ensures _ _ c.in-Look.is in record { slots = (x.0.slots, x.0.fits); good_var = x.1; v_value = x.2 }

pub overflow_add-used : goal.overflow_add-used
overflow_add-used c = let e = ends_most (c.look_bind-u.ensures.ends []) in omega (arith, c.ranges)

pub pair_past-requires-in-Done : goal.pair_past-requires-in-Done
pair_past-requires-in-Done c = let p = c.requires in let x = looked_ready _ _ _ _ _ _ _ p.pairs p.count_nonzero.1 _ c.pair_step.ensures _ _ c.in-Look.is _ _ c.look_bind-u.ensures.ends c.look_bind-u.ensures.keeps in record { slots = x.0; paired = x.1; count_nonzero = p.count_nonzero.0 }

pub returns-in-Into : goal.returns-in-Into
returns-in-Into c = let p = c.requires in turn_into _ _ _ _ _ _ _ p.pairs p.count_nonzero.1 _ c.pair_step.ensures _ c.in-Into.is

pub returns-in-Past : goal.returns-in-Past
returns-in-Past c = let p = c.requires in turn_past _ _ _ _ _ _ _ p.pairs p.count_nonzero.1 _ c.pair_step.ensures _ c.in-Past.is _ c.pair_past.ensures

pub returns-in-Apart : goal.returns-in-Apart
returns-in-Apart c = let p = c.requires in turn_apart _ _ _ _ _ _ _ p.pairs p.count_nonzero.1 _ c.pair_step.ensures c.in-Apart.is

pub returns-in-TooMany : goal.returns-in-TooMany
returns-in-TooMany c = let p = c.requires in turn_full _ _ _ _ _ _ _ p.pairs p.count_nonzero.1 _ c.pair_step.ensures c.in-TooMany.is

pub returns-in-Done : goal.returns-in-Done
returns-in-Done c = let p = c.requires in looked_done _ _ _ _ _ _ _ p.pairs p.count_nonzero.1 _ c.pair_step.ensures _ _ c.in-Look.is _ _ c.look_bind-u.ensures.ends c.look_bind-u.ensures.keeps c.in-Done.is _ c.pair_past-in-Done.ensures

pub returns-in_default : goal.returns-in_default
returns-in_default c = let p = c.requires in looked_over _ _ _ _ _ _ _ p.pairs p.count_nonzero.1 _ c.pair_step.ensures _ _ c.in-Look.is _ _ c.look_bind-u.ensures.ends c.in_default.not-Done
