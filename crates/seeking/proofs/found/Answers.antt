use Rattle.seeking.proofs.SeekChain.{word_here, word_nowhere}
use Rattle.seeking.proofs.found.Goals as goal

pub returns-then-w-gt0 : goal.returns-then-w-gt0
returns-then-w-gt0 c = λ ws md tp rest S. word_here S c.if-w-gt0.true

pub returns : goal.returns
returns c = let p = c.requires in λ ws md tp rest S. rw c.own_first.ensures (word_nowhere S p.0 p.1 c.if-w-gt0.false)
