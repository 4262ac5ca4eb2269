use Rattle.starting.proofs.StartLaws.{last_ready, run_clauses, own_indexed}
use Rattle.starting.proofs.index_own.Goals as goal

pub last-requires : goal.last-requires
last-requires c = (last_ready _ c.requires.accepted).0

pub read-requires : goal.read-requires
read-requires c = rw c.last.ensures (last_ready _ c.requires.accepted).1

pub make_index-requires : goal.make_index-requires
make_index-requires c = let x = run_clauses _ c.requires.accepted _ _ (rw c.last.ensures at c.read.ensures.0) (rw c.last.ensures at c.read.ensures.1) in record { clause_run = x.0; first_bound = x.1 }

pub returns : goal.returns
returns c = own_indexed _ c.requires.accepted _ _ _ _ (rw c.last.ensures at c.read.ensures.0) (rw c.last.ensures at c.read.ensures.1) c.make_index.ensures
