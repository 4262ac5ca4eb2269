use Rattle.returning.proofs.RenewLaws.{keep_ready, renewed, dropped}
use Rattle.returning.proofs.renew.Goals as goal

pub keep-requires-clause-made_bound : goal.keep-requires-clause-made_bound
keep-requires-clause-made_bound c = let p = c.requires in rw c.at_place.ensures (keep_ready _ _ _ _ _ p.to_clause.1 _ p.accepted.1 p.accepted.0 _ c.in-Some.is).0

pub keep-requires-clause-supposed_bound : goal.keep-requires-clause-supposed_bound
keep-requires-clause-supposed_bound c = let p = c.requires in rw c.at_place.ensures (keep_ready _ _ _ _ _ p.to_clause.1 _ p.accepted.1 p.accepted.0 _ c.in-Some.is).1

pub returns-in-Some : goal.returns-in-Some
returns-in-Some c = λ threads X. renewed _ _ _ _ _ X _ c.requires.accepted.1 c.requires.accepted.0 _ _ _ c.in-Some.is c.at_place.ensures c.keep.ensures

pub returns-in-None : goal.returns-in-None
returns-in-None c = λ threads X. dropped _ _ _ _ _ X _ c.requires.accepted.1 c.in-None.is
