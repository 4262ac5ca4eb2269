use native.Mathlib.Omega.{arith}
use Rattle.branch.proofs.FromScoped.{own_ready}
use Rattle.running.proofs.StepTurns.{none_held, due_no, goal_spent}
use Rattle.taking.proofs.MemoFrames.{memo_ended}
use Rattle.running.proofs.reach.Goals as goal

pub back-requires : goal.back-requires
back-requires c = let p = c.requires in record { solving_value = none_held _ c.in_default.not-Some; stands = p.stands; memo = p.memo }

pub returns-then-left-eq0 : goal.returns-then-left-eq0
returns-then-left-eq0 c = record { reach_contract = goal_spent c.in-Some.is c.if-left-eq0.true; memo_reached = memo_ended _ _ _ _ _ }

pub take-requires : goal.take-requires
take-requires c = let p = c.requires in let A = p.accepted.0 in let s = c.in-Some.is in record { accepted = (A, own_ready _ A, p.accepted.1); solving_value = (s, due_no c.args.r _ p.r_value s, omega (arith, c.if-left-eq0.false)); stands = p.stands; memo = p.memo }
