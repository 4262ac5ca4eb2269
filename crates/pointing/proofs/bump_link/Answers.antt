use Rattle.pointing.proofs.MarkLaws.{marks_one}
use Rattle.book.specs.Pointing.{pointers_as}
use Rattle.pointing.proofs.bump_link.Goals as goal

pub returns : goal.returns
unfolding pointers_as
returns c = marks_one _ _ _ _ c.from.ensures c.bump.ensures
