use borrow.Author.Tests.{eq-eqb, ne_eqb, lt-ltb, le-ltb}
use Rattle.scope.specs.Parts.{child_of}
use Rattle.scope.proofs.Part.child.Goals as goal

pub returns-then-i-n : goal.returns-then-i-n
unfolding child_of
returns-then-i-n c = rw (child_of, lt-ltb _ _ (rw c.from-n.ensures at c.if-i-n.true)) cc

pub returns-then-i-n-2 : goal.returns-then-i-n-2
unfolding child_of
returns-then-i-n-2 c = rw (child_of, le-ltb _ _ (rw c.from-n.ensures at c.if-i-n.false), eq-eqb _ _ (rw c.from-n.ensures at c.if-i-n-2.true))

pub returns-else-i-n-2 : goal.returns-else-i-n-2
unfolding child_of
returns-else-i-n-2 c = rw (child_of, le-ltb _ _ (rw c.from-n.ensures at c.if-i-n.false), ne_eqb _ _ (rw c.from-n.ensures at c.if-i-n-2.false))
