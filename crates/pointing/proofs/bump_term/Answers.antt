use Rattle.book.specs.Pointing.{pointers_as}
use Rattle.pointing.proofs.bump_term.Goals as goal

pub returns : goal.returns
unfolding pointers_as
returns c = cc
