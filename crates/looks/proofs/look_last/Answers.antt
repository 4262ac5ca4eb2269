use native.Mathlib.Omega.{arith}
use Rattle.looks.proofs.RunLaws.{into_over, into_hand}
use Rattle.looks.proofs.look_last.Goals as goal

pub returns-then-s-k-gt256 : goal.returns-then-s-k-gt256
returns-then-s-k-gt256 c = let p = c.requires in into_over _ _ p.slots.room _ _ p.listed.0 _ _ _ p.term_at.1.many (omega (arith, c.if-s-k-gt256.true, p.listed.1))

pub returns : goal.returns
returns c = let p = c.requires in into_hand _ _ p.slots.room _ _ p.listed.0 c.args.book.now.readable _ _ p.term_at.0 _ _ p.term_at.1 p.listed.1 c.if-s-k-gt256.false
