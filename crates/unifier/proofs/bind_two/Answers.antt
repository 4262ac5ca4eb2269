use borrow.Author.Tests.{lt-ltb, le-ltb}
use Rattle.unifier.specs.Pairs.{bind_two}
use Rattle.unifier.proofs.bind_two.Goals as goal

pub returns-then-x-y : goal.returns-then-x-y
unfolding bind_two
returns-then-x-y c = rw (bind_two, lt-ltb _ _ c.if-x-y.true) c.bind.ensures

pub returns-else-x-y : goal.returns-else-x-y
unfolding bind_two
returns-else-x-y c = rw (bind_two, le-ltb _ _ c.if-x-y.false) c.bind-else-x-y.ensures
