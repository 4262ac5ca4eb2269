use native.Mathlib.Omega.{arith}
use mathlib.Core.Path.{sym, ◌∙◌}
use Rattle.index.proofs.RunLaws.{suppose_run, found_within}
use Rattle.supposed.proofs.SearchLaws.{none_first}
use Rattle.supposed.proofs.first_of.Goals as goal

-- where the class is not marked
pub returns-then-not-may_suppose : goal.returns-then-not-may_suppose
returns-then-not-may_suppose c = let p = c.requires in (none_first _ _ _ _ _ p.formed.1 p.s_bound.0 p.s_bound.1 _ (omega arith) (sym c.may_suppose.ensures ∙ c.if-not-may_suppose.true), tt)

pub first_supposed-requires : goal.first_supposed-requires
first_supposed-requires c = let p = c.requires in
    let y = suppose_run _ c.args.book.now.readable p.formed.0 _ p.s_bound.0 p.s_bound.1 in
    record {
      clause_run = rw (c.read.ensures.0, c.read.ensures.1) y.0;
      n_nonzero = rw (c.read.ensures.0, c.read.ensures.1) (y.1, y.2, y.3);
      run_indexed = rw (c.read.ensures.0, c.read.ensures.1) (p.formed.1.runs _ p.s_bound.0 p.s_bound.1);
    }

pub returns : goal.returns
returns c = let p = c.requires in
    let y = suppose_run _ c.args.book.now.readable p.formed.0 _ p.s_bound.0 p.s_bound.1 in
    let e = rw (c.read.ensures.0, c.read.ensures.1) at c.first_supposed.ensures in
    (e, found_within _ _ _ _ e y.2)
