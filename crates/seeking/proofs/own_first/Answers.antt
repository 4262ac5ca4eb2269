use mathlib.Core.Path.{◌∙◌}
use Rattle.seeking.proofs.SeekOwn.{own_yes, own_no, last_in, from_first}
use Rattle.seeking.proofs.own_first.Goals as goal

pub read-run-requires : goal.read-run-requires
read-run-requires c = last_in _ c.args.book.now.readable _ c.requires.0 _ 0 0 c.last-last.ensures

pub returns-in_err-clause : goal.returns-in_err-clause
returns-in_err-clause c = c.from_residual.ensures ∙ own_no _ _ _ _ _ _ _ _ c.last-last.ensures c.read-run.ensures.0 c.read-run.ensures.1 (from_first _ _ _ _ _ _ c.first_match.ensures) c.in_err-clause.was

pub returns : goal.returns
returns c = own_yes _ _ _ _ _ _ _ _ c.last-last.ensures c.read-run.ensures.0 c.read-run.ensures.1 (from_first _ _ _ _ _ _ c.first_match.ensures) _ c.in_ok-clause.was
