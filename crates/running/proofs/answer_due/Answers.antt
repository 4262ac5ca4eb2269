use Rattle.running.proofs.StepTurns.{due_hand, due_goal, due_back}
use Rattle.running.proofs.answer_due.Goals as goal

pub returns-in_err-b : goal.returns-in_err-b
returns-in_err-b c = rw c.from_residual.ensures (due_back _ c.in_err-b.was)

pub returns-then-b-eq0 : goal.returns-then-b-eq0
returns-then-b-eq0 c = due_hand _ _ c.in_ok-b.was c.if-b-eq0.true

pub returns-else-b-eq0 : goal.returns-else-b-eq0
returns-else-b-eq0 c = due_goal _ _ c.in_ok-b.was c.if-b-eq0.false
