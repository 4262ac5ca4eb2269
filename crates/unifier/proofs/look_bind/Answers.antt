use native.Mathlib.Omega.{arith}
use Rattle.unifier.proofs.TurnLaws.{bind_room, kept_after, kept_bound, look_done, look_else}
use Rattle.unifier.proofs.look_bind.Goals as goal

pub bind-requires : goal.bind-requires
bind-requires c = let p = c.requires in let l = c.look-l.ensures in bind_room _ c.args.book.now.readable _ _ _ _ p.slots.0 p.slots.1 l.keeps _ _ _ p.good_var.0 p.good_var.1 p.v_value _ _ l.look_went

pub overflow_add-result : goal.overflow_add-result
overflow_add-result c = let p = c.requires in let l = c.look-l.ensures in omega (arith, (bind_room _ c.args.book.now.readable _ _ _ _ p.slots.0 p.slots.1 l.keeps _ _ _ p.good_var.0 p.good_var.1 p.v_value _ _ l.look_went).1)

pub returns-in-Done : goal.returns-in-Done
returns-in-Done c = let p = c.requires in let l = c.look-l.ensures in record { keeps = kept_bound _ c.args.book.now.readable _ _ _ _ p.slots.0 p.slots.1 l.keeps _ _ _ p.good_var.0 p.good_var.1 p.v_value _ _ l.look_went _ c.bind.ensures; ends = λ ps. look_done _ c.args.book.now.readable _ _ _ _ p.slots.0 p.slots.1 l.keeps _ _ _ p.good_var.0 p.good_var.1 p.v_value _ _ l.look_went ps c.in-Done.is _ c.bind.ensures }

pub returns-in_default : goal.returns-in_default
returns-in_default c = let p = c.requires in let l = c.look-l.ensures in record { keeps = kept_after _ c.args.book.now.readable _ _ _ _ p.slots.0 p.slots.1 l.keeps _ _ _ p.good_var.0 p.good_var.1 p.v_value _ _ l.look_went; ends = λ ps. look_else _ c.args.book.now.readable _ _ _ _ p.slots.0 p.slots.1 l.keeps _ _ _ p.good_var.0 p.good_var.1 p.v_value _ _ l.look_went ps c.in_default.not-Done }
