use Rattle.seeking.proofs.MemoEntries.{half_tag, half_most, entry_here}
use Rattle.seeking.proofs.entry_at.Goals as goal

pub returns : goal.returns
returns c = rw (half_tag c.args.half, c.from.ensures) (entry_here _ _ _ (half_most c.args.half))
