use Rattle.book.specs.Scan.{lower}
use Rattle.scope.proofs.LowestLaws.{lower_min}
use Rattle.scope.proofs.lower.Goals as goal

pub returns-in-None-default : goal.returns-in-None-default
unfolding lower
returns-in-None-default c = rw c.in-None-default.is-0

pub returns-in_default-None : goal.returns-in_default-None
unfolding lower
returns-in_default-None c = rw (c.in_default-None.is-0, c.in_default-None.is-1)

pub returns-in-Some-Some : goal.returns-in-Some-Some
returns-in-Some-Some c = let x = c.in-Some-Some in rw (x.is-0, x.is-1, c.min.ensures) (lower_min x.r x.q)
