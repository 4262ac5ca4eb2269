use native.Mathlib.Omega.{arith}
use Rattle.words.proofs.StackLaws.{keeps_narrow}
use Rattle.seeking.proofs.SeekChain.{all_same}
use Rattle.seeking.proofs.seek_first.Goals as goal

pub found-requires : goal.found-requires
found-requires c = let p = c.requires in let S = p.searchable in let K = c.seek_programs-w.ensures.memo_stays.0.below in (S.formed, p.own_ready, all_same _ p.own_ready (keeps_narrow (omega arith) (omega arith) K) (keeps_narrow (omega arith) (omega arith) K) S.indexed)
