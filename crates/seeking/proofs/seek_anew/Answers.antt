use Rattle.seeking.proofs.MemoEntries.{half_most, remembers_stay}
use Rattle.seeking.proofs.SeekChain.{put_at_lem}
use Rattle.seeking.proofs.seek_anew.Goals as goal

pub returns-clause-memo_stays : goal.returns-clause-memo_stays
returns-clause-memo_stays c = let p = c.requires in let S = p.searchable in let x = put_at_lem p.p_nonzero S.standing.1 in let F = c.seek_put-w.ensures in rw c.remember.ensures (remembers_stay _ _ _ _ _ _ (half_most c.args.half) c.told-ws _ _ x.some x.below S.few S.count F.0 F.1)
