use mathlib.Core.Path.{sym}
use Prim.Native.Nat.{◌/◌, ◌≤◌}
use native.Mathlib.Omega.{arith}
use lib.ListN.{length}
use lib.Seq.{length-take-le}
use Rattle.book.specs.Records.{records}
use Rattle.pointing.proofs.MarkLaws.{counted_front}
use Rattle.pointing.proofs.tree_test.Goals as goal

pub slice_bounds-table_test-end : goal.slice_bounds-table_test-end
unfolding records
slice_bounds-table_test-end c = omega arith

pub slice_bounds-table_test-end-2 : goal.slice_bounds-table_test-end-2
unfolding records
slice_bounds-table_test-end-2 c = sym (length-take-le (length c.args.book.now / 16) c.args.ws.now (omega arith))

pub table_test-requires : goal.table_test-requires
unfolding records
table_test-requires c =
    let h : length c.args.book.now / 16 ≤ length c.args.ws.now = omega arith in
    let e = length-take-le (length c.args.book.now / 16) c.args.ws.now h in
    (c.requires.0, c.requires.1, omega arith, c.requires.3)

pub returns : goal.returns
returns c =
    let t = c.table_test.ensures in
    let h : records c.args.book.now ≤ length c.args.ws.now = omega arith in
    (t.0, counted_front c.args.book.now c.args.ws.now _ h t.1)
