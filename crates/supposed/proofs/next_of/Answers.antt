use native.Mathlib.Omega.{arith}
use Prim.Native.Nat.{◌+◌}
use Rattle.book.specs.Records.{field}
use Rattle.index.proofs.RunLaws.{suppose_run, next_none, found_no, found_within}
use Rattle.supposed.proofs.next_of.Goals as goal

pub returns-then-run-i : goal.returns-then-run-i
returns-then-run-i c = let a = c.args in
    let l = c.requires.i_bound.0 in
    let n = c.read-run.ensures.1 in
    let z = next_none a.book.now.bytes.now a.head.symbol a.head.count (field a.book.now.bytes.now a.s 1) (a.i + 1) (field a.book.now.bytes.now a.s 2) (omega (arith, n, c.if-run-i.true, l)) in
    (found_no _ _ (omega (arith, z, l)), tt)

pub supposed_after-requires : goal.supposed_after-requires
supposed_after-requires c = let p = c.requires in
    let y = suppose_run _ c.args.book.now.readable p.formed.0 _ p.s_bound.0 p.s_bound.1 in
    record {
      clause_run = rw (c.read-run.ensures.0, c.read-run.ensures.1) y.0;
      i_lt_n = rw (c.read-run.ensures.0, c.read-run.ensures.1) (p.i_bound.0, y.2, y.3);
      run_indexed = rw (c.read-run.ensures.0, c.read-run.ensures.1) (p.formed.1.runs _ p.s_bound.0 p.s_bound.1);
      i_value = rw c.read-run.ensures.0 p.i_bound.1;
    }

pub returns : goal.returns
returns c = let p = c.requires in
    let y = suppose_run _ c.args.book.now.readable p.formed.0 _ p.s_bound.0 p.s_bound.1 in
    let e = rw (c.read-run.ensures.0, c.read-run.ensures.1) at c.supposed_after.ensures in
    (e, found_within _ _ _ _ e y.2)
