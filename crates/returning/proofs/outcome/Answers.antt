use Rattle.returning.proofs.OutcomeLaws.{outcome_done, outcome_failed, outcome_stopped}
use Rattle.returning.proofs.outcome.Goals as goal

pub returns-in-Done : goal.returns-in-Done
returns-in-Done c = rw (c.registers.ensures, c.branch_from.ensures) (outcome_done c.args.x _ _ c.args.l c.args.u c.in-Done.is)

pub returns-in-Failed : goal.returns-in-Failed
returns-in-Failed c = rw c.registers.ensures (outcome_failed c.args.x _ _ _ c.args.u c.in-Failed.is)

pub returns-in-Stopped : goal.returns-in-Stopped
returns-in-Stopped c = outcome_stopped _ _ _ _ c.args.u _ c.in-Stopped.is
