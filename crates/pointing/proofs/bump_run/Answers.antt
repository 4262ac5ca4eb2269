use Rattle.pointing.proofs.MarkLaws.{run_end, run_step}
use borrow.Author.Rules.{rules}
use mathlib.Core.Path.{sym, ◌∙◌}
use Rattle.pointing.proofs.bump_run.Goals as goal

pub loop-l-preserved : goal.loop-l-preserved
loop-l-preserved c = (search rules, rw c.bump.ensures (sym (run_step _ _ _ c.loop-l-test.true) ∙ c.loop-l.invariant.1))

pub returns : goal.returns
returns c = sym (run_end _ _ _ c.loop-l-test.false) ∙ c.loop-l.invariant.1
