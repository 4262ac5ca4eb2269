use Rattle.supposed.proofs.NoteWords.{run_none, run_more}
use Rattle.supposed.proofs.index_run.Goals as goal

pub loop-i-init : goal.loop-i-init
loop-i-init c = λ ws₁ e. run_none _ _ _ _ ws₁ _ e

pub loop-i-preserved : goal.loop-i-preserved
loop-i-preserved c = λ ws₁ e. run_more _ _ _ _ ws₁ _ _ _ c.loop-i-test.true c.loop-i.auto.i (c.loop-i.invariant ws₁ e) c.enter_clause.ensures
