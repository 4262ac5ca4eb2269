use native.Mathlib.Omega.{arith}
use Rattle.words.proofs.ReadLaws.{in_book}
use Rattle.taking.proofs.MemoFrames.{memo_ended, memo_atom, memo_and, memo_or, memo_suppose, memo_plain}
use Rattle.taking.proofs.TakingLaws.{stops, read_ready, goal_inside, goal_atom, take_room, take_standing, takes_atom, takes_plain, takes_and, takes_or, takes_suppose}
use Rattle.taking.proofs.take.Goals as goal

pub returns-then-b-ge512 : goal.returns-then-b-ge512
returns-then-b-ge512 c = let p = c.requires in record { reach_contract = stops _ p.accepted.0.formed _ _ _ _ p.solving_value.0 p.solving_value.1 p.solving_value.2 (omega (arith, c.if-b-ge512.true)); memo_reached = memo_ended _ _ _ _ _ }

pub read_cell-x-requires : goal.read_cell-x-requires
read_cell-x-requires c = let p = c.requires in read_ready _ _ _ _ p.solving_value.0 p.solving_value.1 p.stands

pub field-kind-requires : goal.field-kind-requires
field-kind-requires c = let p = c.requires in record { r_bound = goal_inside _ _ _ _ p.solving_value.0 p.solving_value.1 p.stands _ c.read_cell-x.ensures; k_bound = omega arith }

pub plain_ahead-p-requires : goal.plain_ahead-p-requires
plain_ahead-p-requires c = let p = c.requires in record { formed = (p.accepted.0.formed, p.accepted.1, p.accepted.2); goal_bound = goal_inside _ _ _ _ p.solving_value.0 p.solving_value.1 p.stands _ c.read_cell-x.ensures; few = omega (arith, c.if-b-ge512.false) }

pub take_plain-requires : goal.take_plain-requires
take_plain-requires c = let p = c.requires in let a = c.plain_ahead-p.ensures c.if-p-gt0.true in record { goal_bound = ((in_book _ c.args.book.now.readable _ a.inside).1, a.goals); room = take_room _ _ _ _ p.solving_value.0 p.solving_value.1 p.stands _ c.read_cell-x.ensures c.args.book.now.readable (omega (arith, c.if-b-ge512.false)) }

pub returns-then-p-gt0 : goal.returns-then-p-gt0
returns-then-p-gt0 c = let p = c.requires in record { reach_contract = takes_plain _ p.accepted.0 _ _ _ _ p.solving_value.0 p.solving_value.1 p.solving_value.2 _ c.read_cell-x.ensures _ c.if-p-gt0.true (c.plain_ahead-p.ensures c.if-p-gt0.true) _ _ c.take_plain.ensures.ws_after c.take_plain.ensures.value; memo_reached = memo_plain _ _ _ _ _ _ p.memo (take_room _ _ _ _ p.solving_value.0 p.solving_value.1 p.stands _ c.read_cell-x.ensures c.args.book.now.readable (omega (arith, c.if-b-ge512.false))) _ _ _ c.take_plain.ensures.ws_after c.take_plain.ensures.value }

pub take_atom-requires : goal.take_atom-requires
take_atom-requires c = let p = c.requires in record { formed = (p.accepted.0.formed, p.accepted.1, p.accepted.2); standing = take_standing _ _ _ _ p.solving_value.0 p.solving_value.1 p.stands _ c.read_cell-x.ensures; has_arguments = goal_atom _ _ _ _ p.solving_value.0 p.solving_value.1 p.stands _ c.read_cell-x.ensures _ c.field-kind.ensures.0 c.if-kind.true; room = take_room _ _ _ _ p.solving_value.0 p.solving_value.1 p.stands _ c.read_cell-x.ensures c.args.book.now.readable (omega (arith, c.if-b-ge512.false)); by_index = (_, p.memo) }

pub returns-then-kind : goal.returns-then-kind
returns-then-kind c = let p = c.requires in let t = c.take_atom.ensures in record { reach_contract = takes_atom _ p.accepted.0.formed _ _ _ _ p.solving_value.0 p.solving_value.1 p.solving_value.2 _ c.read_cell-x.ensures (omega (arith, c.if-b-ge512.false)) _ c.field-kind.ensures.0 c.if-kind.true _ t.atom_taken _ t.memo_stays.0; memo_reached = memo_atom _ _ _ _ _ _ p.memo _ _ t.atom_taken t.memo_stays }

pub take_and-requires : goal.take_and-requires
take_and-requires c = let p = c.requires in record { goal_bound = goal_inside _ _ _ _ p.solving_value.0 p.solving_value.1 p.stands _ c.read_cell-x.ensures; room = take_room _ _ _ _ p.solving_value.0 p.solving_value.1 p.stands _ c.read_cell-x.ensures c.args.book.now.readable (omega (arith, c.if-b-ge512.false)) }

pub returns-then-kind-2 : goal.returns-then-kind-2
returns-then-kind-2 c = let p = c.requires in record { reach_contract = takes_and _ p.accepted.0.formed _ _ _ _ p.solving_value.0 p.solving_value.1 p.solving_value.2 _ c.read_cell-x.ensures (omega (arith, c.if-b-ge512.false)) _ c.field-kind.ensures.0 _ _ c.if-kind-2.true c.take_and.ensures.ws_after c.take_and.ensures.value; memo_reached = memo_and _ _ _ _ _ _ p.memo (take_room _ _ _ _ p.solving_value.0 p.solving_value.1 p.stands _ c.read_cell-x.ensures c.args.book.now.readable (omega (arith, c.if-b-ge512.false))) _ _ c.take_and.ensures.ws_after c.take_and.ensures.value }

pub take_or-requires : goal.take_or-requires
take_or-requires c = let p = c.requires in record { goal_bound = goal_inside _ _ _ _ p.solving_value.0 p.solving_value.1 p.stands _ c.read_cell-x.ensures; room = take_room _ _ _ _ p.solving_value.0 p.solving_value.1 p.stands _ c.read_cell-x.ensures c.args.book.now.readable (omega (arith, c.if-b-ge512.false)) }

pub returns-then-kind-3 : goal.returns-then-kind-3
returns-then-kind-3 c = let p = c.requires in record { reach_contract = takes_or _ p.accepted.0.formed _ _ _ _ p.solving_value.0 p.solving_value.1 p.solving_value.2 _ c.read_cell-x.ensures (omega (arith, c.if-b-ge512.false)) _ c.field-kind.ensures.0 _ _ c.if-kind-3.true c.take_or.ensures.ws_after c.take_or.ensures.value; memo_reached = memo_or _ _ _ _ _ _ p.memo (take_room _ _ _ _ p.solving_value.0 p.solving_value.1 p.stands _ c.read_cell-x.ensures c.args.book.now.readable (omega (arith, c.if-b-ge512.false))) _ _ c.take_or.ensures.ws_after c.take_or.ensures.value }

pub take_suppose-requires : goal.take_suppose-requires
take_suppose-requires c = let p = c.requires in record { goal_bound = goal_inside _ _ _ _ p.solving_value.0 p.solving_value.1 p.stands _ c.read_cell-x.ensures; room = take_room _ _ _ _ p.solving_value.0 p.solving_value.1 p.stands _ c.read_cell-x.ensures c.args.book.now.readable (omega (arith, c.if-b-ge512.false)) }

pub returns : goal.returns
returns c = let p = c.requires in record { reach_contract = takes_suppose _ p.accepted.0.formed _ _ _ _ p.solving_value.0 p.solving_value.1 p.solving_value.2 _ c.read_cell-x.ensures (omega (arith, c.if-b-ge512.false)) _ c.field-kind.ensures.0 _ _ c.if-kind.false c.if-kind-2.false c.if-kind-3.false c.take_suppose.ensures.ws_after c.take_suppose.ensures.value; memo_reached = memo_suppose _ _ _ _ _ _ p.memo (take_room _ _ _ _ p.solving_value.0 p.solving_value.1 p.stands _ c.read_cell-x.ensures c.args.book.now.readable (omega (arith, c.if-b-ge512.false))) _ _ p.solving_value.2 c.take_suppose.ensures.ws_after c.take_suppose.ensures.value }
