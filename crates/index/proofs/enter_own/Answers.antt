use native.Mathlib.Omega.{arith}
use mathlib.Core.Path.{refl}
use Prim.Native.Nat.{◌+◌, ◌<◌}
use Rattle.index.proofs.RunLaws.{found_some, found_none}
use Rattle.index.proofs.ListLaws.{code_head, link_small}
use Rattle.index.proofs.IndexLaws.{made_list, entered_before, entered_new}
use Rattle.index.proofs.enter_own.Goals as goal

pub head_node-requires-clause-by_index : goal.head_node-requires-clause-by_index
head_node-requires-clause-by_index c = let p = c.requires in (c.args.i + 1, omega (arith, p.i_lt_n.0), made_list _ _ _ _ _ _ p.i_lt_n.2 (omega (arith, p.i_lt_n.0)) p.indexed_from)

pub overflow_add-w : goal.overflow_add-w
overflow_add-w c = let p = c.requires in let x = found_some _ _ _ (c.in-Some.ensures (c.args.i + 1) (omega (arith, p.i_lt_n.0)) (made_list _ _ _ _ _ _ p.i_lt_n.2 (omega (arith, p.i_lt_n.0)) p.indexed_from)) in omega (arith, x.0, x.1, p.i_lt_n.2)

pub bounds-ws-z : goal.bounds-ws-z
bounds-ws-z c = let p = c.requires in let x = found_some _ _ _ (c.in-Some.ensures (c.args.i + 1) (omega (arith, p.i_lt_n.0)) (made_list _ _ _ _ _ _ p.i_lt_n.2 (omega (arith, p.i_lt_n.0)) p.indexed_from)) in omega (arith, x.0, x.1, p.i_lt_n.2)

pub overflow_add-ws-in-Some : goal.overflow_add-ws-in-Some
overflow_add-ws-in-Some c = let p = c.requires in let x = found_some _ _ _ (c.in-Some.ensures (c.args.i + 1) (omega (arith, p.i_lt_n.0)) (made_list _ _ _ _ _ _ p.i_lt_n.2 (omega (arith, p.i_lt_n.0)) p.indexed_from)) in omega (arith, x.0, x.1, p.i_lt_n.2)

pub bounds-ws-z-in-Some : goal.bounds-ws-z-in-Some
bounds-ws-z-in-Some c = let p = c.requires in let x = found_some _ _ _ (c.in-Some.ensures (c.args.i + 1) (omega (arith, p.i_lt_n.0)) (made_list _ _ _ _ _ _ p.i_lt_n.2 (omega (arith, p.i_lt_n.0)) p.indexed_from)) in omega (arith, x.0, x.1, p.i_lt_n.2)

pub returns-in-Some : goal.returns-in-Some
returns-in-Some c = let p = c.requires in
    let x = found_some _ _ _ (c.in-Some.ensures (c.args.i + 1) (omega (arith, p.i_lt_n.0)) (made_list _ _ _ _ _ _ p.i_lt_n.2 (omega (arith, p.i_lt_n.0)) p.indexed_from)) in
    entered_before _ _ _ _ _ _ _ _ c.told-ws p.i_lt_n.2 p.i_lt_n.0 p.indexed_from (code_head _ _ _ _ _ _ _ c.field-c.ensures.0 refl c.of_clause-head.ensures.0 c.of_clause-head.ensures.1) x.1 (omega (arith, x.0, x.1))

pub overflow_mul-ws-in-None : goal.overflow_mul-ws-in-None
overflow_mul-ws-in-None c = let least : c.link_or-link.result < c.args.run.count = rw c.link_or-link.ensures (link_small _ _ _ c.requires.i_lt_n.0) in omega (arith, least, c.requires.i_lt_n.2)

pub overflow_add-ws-in-None : goal.overflow_add-ws-in-None
overflow_add-ws-in-None c = let least : c.link_or-link.result < c.args.run.count = rw c.link_or-link.ensures (link_small _ _ _ c.requires.i_lt_n.0) in omega (arith, least, c.requires.i_lt_n.2, c.requires.i_lt_n.0)

pub overflow_add-ws-in-None-2 : goal.overflow_add-ws-in-None-2
overflow_add-ws-in-None-2 c = let least : c.link_or-link.result < c.args.run.count = rw c.link_or-link.ensures (link_small _ _ _ c.requires.i_lt_n.0) in omega (arith, least, c.requires.i_lt_n.2, c.requires.i_lt_n.0)

pub returns-in-None : goal.returns-in-None
returns-in-None c = let p = c.requires in
    let x = found_none _ _ (c.in-None.ensures (c.args.i + 1) (omega (arith, p.i_lt_n.0)) (made_list _ _ _ _ _ _ p.i_lt_n.2 (omega (arith, p.i_lt_n.0)) p.indexed_from)) in
    entered_new _ _ _ _ _ _ _ _ c.told-ws p.i_lt_n.2 p.i_lt_n.0 p.indexed_from (code_head _ _ _ _ _ _ _ c.field-c.ensures.0 refl c.of_clause-head.ensures.0 c.of_clause-head.ensures.1) refl x
    _ _ _ c.head_bucket.ensures.0 c.head_bucket.ensures.1 c.link_or-link.ensures c.field-c.ensures.0
