use mathlib.Core.Path.{◌∙◌}
use Rattle.seeking.proofs.SeekOwn.{own_yes, own_no, last_in}
use Rattle.seeking.proofs.own_after.Goals as goal

pub read-run-requires : goal.read-run-requires
read-run-requires c = last_in _ c.args.book.now.readable _ c.requires.own_ready.0 _ 0 0 c.last-last.ensures

pub returns-in_err-clause : goal.returns-in_err-clause
returns-in_err-clause c = c.from_residual.ensures ∙ own_no _ _ _ _ _ _ _ _ c.last-last.ensures c.read-run.ensures.0 c.read-run.ensures.1 c.match_after.ensures c.in_err-clause.was

pub returns : goal.returns
returns c = own_yes _ _ _ _ _ _ _ _ c.last-last.ensures c.read-run.ensures.0 c.read-run.ensures.1 c.match_after.ensures _ c.in_ok-clause.was
