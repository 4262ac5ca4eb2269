use mathlib.Core.Path.{◌≡◌, ◌∙◌, refl, sym}
use Prim.Native.Nat.{◌≤◌, ◌/◌, ◌-◌}
use native.Mathlib.Omega.{arith}
use lib.ListN.{length}
use lib.Seq.{length-take-le}
use Rattle.book.specs.Records.{records}
use Rattle.pointing.proofs.MarkLaws.{counts_here, tree_by_counts}
use borrow.Author.Rules.{rules}
use Rattle.pointing.proofs.table_test.Goals as goal

pub overflow_cast-n : goal.overflow_cast-n
unfolding records
overflow_cast-n c = let a = c.requires.1 in omega arith

pub mark-requires : goal.mark-requires
unfolding records
mark-requires c =
    let p : records c.args.book.now ≤ length c.args.ws.now = c.requires.2 in
    (omega arith, omega arith, c.requires.3)

pub slice_bounds-lowest_not_once-count : goal.slice_bounds-lowest_not_once-count
unfolding records
slice_bounds-lowest_not_once-count c = let p = c.requires.0 in omega arith

pub slice_bounds-lowest_not_once-end : goal.slice_bounds-lowest_not_once-end
unfolding records
slice_bounds-lowest_not_once-end c =
    let k : length c.mark.new.ws ≡ length c.args.ws.now = search rules in
    let p : records c.args.book.now ≤ length c.args.ws.now = c.requires.2 in
    omega arith

pub slice_bounds-lowest_not_once-length : goal.slice_bounds-lowest_not_once-length
unfolding records
slice_bounds-lowest_not_once-length c =
    let k : length c.mark.new.ws ≡ length c.args.ws.now = search rules in
    let p : records c.args.book.now ≤ length c.args.ws.now = c.requires.2 in
    sym (length-take-le (length c.args.book.now / 16 - 1) c.mark.new.ws (omega arith))

pub lowest_not_once-requires : goal.lowest_not_once-requires
unfolding records
lowest_not_once-requires c =
    let k : length c.mark.new.ws ≡ length c.args.ws.now = search rules in
    let p : records c.args.book.now ≤ length c.args.ws.now = c.requires.2 in
    let q : records c.args.book.now ≤ 4096 = c.requires.1 in
    let l = length-take-le (length c.args.book.now / 16 - 1) c.mark.new.ws (omega arith) in
    omega arith

pub returns : goal.returns
unfolding records
returns c =
    let k : length c.mark.new.ws ≡ length c.args.ws.now = search rules in
    let p : records c.args.book.now ≤ length c.args.ws.now = c.requires.2 in
    let e = counts_here c.args.book.now c.args.ws.now _ _ c.clear.ensures c.mark.ensures in
    (c.lowest_not_once.ensures ∙ tree_by_counts c.args.book.now _ _ _ c.requires.2 e (omega arith) refl, e)
