use Rattle.seeking.proofs.SeekChain.{own_nowhere}
use Rattle.seeking.proofs.seek_before.Goals as goal

pub returns-then-p-eq0-clause-finds : goal.returns-then-p-eq0-clause-finds
returns-then-p-eq0-clause-finds c = λ md tp rest z. own_nowhere _ _ _ _ _ _ _ rest c.if-p-eq0.true z
