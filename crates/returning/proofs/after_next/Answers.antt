use native.Mathlib.Omega.{arith}
use mathlib.Core.Path.{refl}
use Rattle.branch.proofs.FromScoped.{own_ready}
use Rattle.returning.proofs.RenewLaws.{atom_large, atom_inside, atom_few, candidate_here, next_is}
use Rattle.returning.proofs.MemoFrames.{next_only}
use Rattle.returning.proofs.after_next.Goals as goal

pub overflow_sub-x : goal.overflow_sub-x
overflow_sub-x c = omega (arith, atom_large _ _ _ _ _ c.requires.to_clause.1)

pub read-head-requires : goal.read-head-requires
read-head-requires c = atom_inside _ _ _ _ _ c.requires.to_clause.1

pub seek_after-requires : goal.seek_after-requires
seek_after-requires c = let p = c.requires in let X = p.to_clause.1 in record { formed = (p.accepted.0.formed, own_ready _ p.accepted.0, p.accepted.1); candidate = candidate_here _ _ _ _ _ X _ _ _ refl c.read-head.ensures.0 c.read-head.ensures.1; few = (X.again.sound.programs_most, rw c.read-head.ensures.1 (atom_few _ _ _ _ _ X c.args.book.now.readable)); by_index = p.by_index }

pub returns-clause-next_is : goal.returns-clause-next_is
returns-clause-next_is c = let X = c.requires.to_clause.1 in let e = c.seek_after.ensures in next_only e.memo_stays.0 c.args.x X.again.sound.programs_most (next_is _ _ _ _ _ X _ _ _ refl c.read-head.ensures.0 c.read-head.ensures.1 _ e.sought)
