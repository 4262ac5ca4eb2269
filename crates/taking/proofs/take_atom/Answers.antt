use native.Mathlib.Omega.{arith}
use Rattle.taking.proofs.AtomRuns.{atom_at, atom_none}
use Rattle.taking.proofs.take_atom.Goals as goal

pub seek_first-requires : goal.seek_first-requires
seek_first-requires c = let p = c.requires in let room = p.room.1 in record { own_ready = p.formed.1; searchable = record { formed = p.formed.0; indexed = p.formed.2; standing = p.standing; few = omega (arith, room.3); count = rw c.read-head.ensures.1 (c.args.book.now.readable.small _ p.has_arguments); memo = p.by_index } }

pub returns-in-Some : goal.returns-in-Some
returns-in-Some c = record { atom_taken = atom_at _ _ _ _ _ _ _ _ c.read-head.ensures.0 c.read-head.ensures.1 c.seek_first.ensures.sought _ _ c.in-Some.is c.at_place.ensures; memo_stays = c.seek_first.ensures.memo_stays }

pub returns-in-None : goal.returns-in-None
returns-in-None c = record { atom_taken = atom_none _ _ _ _ _ _ _ _ c.read-head.ensures.0 c.read-head.ensures.1 c.seek_first.ensures.sought _ c.in-None.is c.to_back.ensures; memo_stays = c.seek_first.ensures.memo_stays }
