use mathlib.Core.Path.{refl, sym, ◌∙◌}
use native.Mathlib.Omega.{arith}
use Rattle.branch.proofs.FromScoped.{own_ready}
use Rattle.returning.proofs.BackNeeds.{can_go_on}
use Rattle.running.proofs.StepTurns.{none_held, due_yes, units_fit, step_turns, step_whole, budget_spent}
use borrow.Author.Rules.{rules}
use Rattle.running.proofs.turn.Goals as goal

pub returns-then-left-eq0 : goal.returns-then-left-eq0
returns-then-left-eq0 c = λ whole M. budget_spent _ _ _ _ _ _ _ _ _ _ whole c.requires.taken M _ (due_yes c.args.r _ _ c.answer_due.ensures c.in-Some.is).0 refl c.if-left-eq0.true

pub answer-requires : goal.answer-requires
answer-requires c = let p = c.requires in let d = due_yes c.args.r _ _ c.answer_due.ensures c.in-Some.is in record { taken = p.taken; midway = p.midway; solving_value = (d.0, d.1, omega (arith, c.if-left-eq0.false, p.midway.1.within)) }

pub reach-o-requires : goal.reach-o-requires
reach-o-requires c = let p = c.requires in let M = p.midway.1 in record { accepted = (p.taken.accepted, M.indexed); r_value = sym c.answer_due.ensures ∙ none_held _ c.in_default.not-Some; stands = (M.threads, M.stands); memo = M.memo }

pub go_on-s-requires : goal.go_on-s-requires
go_on-s-requires c = let p = c.requires in let A = p.taken.accepted in let M = p.midway.1 in let o = c.reach-o.ensures in record { accepted = A; can_go_on = can_go_on (own_ready _ A) M.indexed (o.reach_contract M.threads M.stands); memo_reached = o.memo_reached }

pub step_taken-requires : goal.step_taken-requires
step_taken-requires c = let p = c.requires in units_fit _ _ _ _ _ _ _ _ _ _ _ p.taken p.midway.1 _ _ _ (search rules) refl (step_whole c.reach-o.ensures.reach_contract c.go_on-s.ensures.goes_on)

pub returns : goal.returns
returns c = λ whole M. step_turns _ _ _ _ _ _ _ _ _ _ whole c.requires.taken M _ _ _ _ refl (step_whole c.reach-o.ensures.reach_contract c.go_on-s.ensures.goes_on) c.go_on-s.ensures.memo_stepped c.step_taken.ensures
