use native.Mathlib.Omega.{arith}
use Rattle.std.proofs.Common.{Err, ap, ◌∙◌}
use Rattle.std.proofs.lemmas.Result.{err_from_is_err_and}
use Rattle.answers.proofs.TermLaws.{inv_start, inv_done, inv_room, inv_full, inv_more}
use Rattle.answers.proofs.write_terms.Goals as goal

pub loop-progress-init : goal.loop-progress-init
loop-progress-init c = let p = c.requires in let t = p.terms_bound in inv_start _ _ _ _ _ _ _ p.slots t.1 t.0 p.good_words p.no_numbers

pub returns-then-out-end-lt8 : goal.returns-then-out-end-lt8
returns-then-out-end-lt8 c = let p = c.requires in let i = c.loop-progress.invariant in inv_room _ _ _ _ _ _ _ p.slots p.terms_bound.1 _ _ _ _ _ i c.if-out-end-lt8.true c.loop-progress-test.true

pub returns-in_err-progress : goal.returns-in_err-progress
returns-in_err-progress c = let p = c.requires in let i = c.loop-progress.invariant in
    let x = err_from_is_err_and c.from_residual.result c.from_residual.ensures.1 in
    rw (x.1 ∙ ap Err x.2) (inv_full _ _ _ _ _ _ _ p.slots p.terms_bound.1 _ _ _ _ _ i c.if-out-end-lt8.false _ _ _ _ c.write_line.ensures c.in_err-progress.was)

pub loop-progress-preserved : goal.loop-progress-preserved
loop-progress-preserved c = let p = c.requires in let i = c.loop-progress.invariant in
    inv_more _ _ _ _ _ _ _ p.slots p.terms_bound.1 _ _ _ _ _ i c.if-out-end-lt8.false _ _ _ _ c.write_line.ensures c.in_ok-progress.was

pub returns : goal.returns
returns c = let p = c.requires in let i = c.loop-progress.invariant in inv_done _ _ _ _ _ _ _ p.slots p.terms_bound.1 _ _ _ _ _ i (omega arith)
