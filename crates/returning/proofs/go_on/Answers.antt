use mathlib.Core.Path.{refl}
use Prim.Native.Nat.{◌<◌}
use native.Mathlib.Omega.{arith}
use Rattle.std.proofs.Common.{None}
use Rattle.returning.proofs.BackNeeds.{on_on, on_end, on_clause, clause_asked, memo_on, memo_asked}
use Rattle.returning.proofs.MemoFrames.{memo_ended, memo_later}
use Rattle.steps.proofs.RunLaws.{units_most}
use Rattle.returning.specs.Reentry.{regs_kept}
use borrow.Author.Rules.{rules}
use Rattle.returning.proofs.go_on.Goals as goal

pub try_all-s-requires-clause-accepted : goal.try_all-s-requires-clause-accepted
try_all-s-requires-clause-accepted c = let p = c.requires in rw c.in-Some.ensures.cases.same (p.accepted, (clause_asked _ _ _ _ p.can_go_on c.in-Clause.is).1)

pub try_all-s-requires-clause-to_clause : goal.try_all-s-requires-clause-to_clause
try_all-s-requires-clause-to_clause c = rw c.in-Some.ensures.cases.same (clause_asked _ _ _ _ c.requires.can_go_on c.in-Clause.is).2

pub try_all-s-requires-clause-memo : goal.try_all-s-requires-clause-memo
try_all-s-requires-clause-memo c = rw c.in-Some.ensures.cases.same (memo_asked _ _ _ _ _ _ _ c.in-Clause.is c.requires.memo_reached)

pub overflow_sub-left : goal.overflow_sub-left
overflow_sub-left c = (clause_asked _ _ _ _ c.requires.can_go_on c.in-Clause.is).0

pub later-requires : goal.later-requires
later-requires c = let p = c.requires in let s = clause_asked _ _ _ _ p.can_go_on c.in-Clause.is in let h : c.args.left < 4294967296 = search rules in let u = units_most ((rw c.in-Some.ensures.cases.same at c.try_all-s.ensures.tries) (regs_kept c.in-Clause.x 0 None) s.2.0 refl s.2.1) in omega (arith, u, s.0, h)

pub returns-in-Onward : goal.returns-in-Onward
returns-in-Onward c = record { goes_on = on_on _ _ _ c.in-Onward.is refl; memo_stepped = memo_on _ _ _ _ _ _ c.in-Onward.is c.requires.memo_reached }

pub returns-in-Finished : goal.returns-in-Finished
returns-in-Finished c = record { goes_on = on_end _ _ _ c.in-Finished.is refl; memo_stepped = memo_ended _ _ _ _ _ }

pub returns-in-Some : goal.returns-in-Some
returns-in-Some c = record { goes_on = on_clause _ _ _ _ _ _ c.in-Clause.is (rw c.in-Some.ensures.cases.same at c.try_all-s.ensures.tries) c.later.ensures; memo_stepped = memo_later _ _ _ _ _ _ c.later.ensures c.try_all-s.ensures.memo_stepped }
