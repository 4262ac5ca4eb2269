use Rattle.returning.specs.Reaching.{ReachGives.reach_on, ReachGives.reach_end}
use Rattle.returning.proofs.ReturnLaws.{complete}
use Rattle.returning.proofs.BackNeeds.{back_ready, goal_memo, clause_memo, memo_done, goal_again, clause_reached}
use Rattle.returning.proofs.back.Goals as goal

pub returns-then-r-eq0 : goal.returns-then-r-eq0
returns-then-r-eq0 c = let p = c.requires in record { reach_contract = (λ threads Z. reach_end (complete _ _ _ _ threads p.solving_value Z c.if-r-eq0.true)); memo_reached = memo_done _ _ _ _ _ }

pub go_back-x-requires : goal.go_back-x-requires
go_back-x-requires c = let p = c.requires in back_ready _ _ c.args.r _ p.solving_value p.stands.1 c.if-r-eq0.false

pub returns-then-x-eq0 : goal.returns-then-x-eq0
returns-then-x-eq0 c = let p = c.requires in record { reach_contract = (λ threads Z. reach_on (goal_again _ _ c.args.r threads p.solving_value Z c.if-r-eq0.false _ _ c.go_back-x.ensures.value c.go_back-x.ensures.ws_after _ _ (rw c.branch_from.ensures at c.registers.ensures) c.if-x-eq0.true)); memo_reached = goal_memo _ _ c.args.r _ p.solving_value p.stands.1 c.if-r-eq0.false _ _ c.go_back-x.ensures.value c.go_back-x.ensures.ws_after _ _ (rw c.branch_from.ensures at c.registers.ensures) p.memo }

pub returns : goal.returns
returns c = let p = c.requires in record { reach_contract = (λ threads Z. clause_reached _ _ c.args.r threads p.solving_value Z c.if-r-eq0.false _ _ c.go_back-x.ensures.value c.go_back-x.ensures.ws_after _ c.if-x-eq0.false); memo_reached = clause_memo _ _ c.args.r _ p.solving_value p.stands.1 c.if-r-eq0.false _ _ c.go_back-x.ensures.value c.go_back-x.ensures.ws_after _ p.memo }
