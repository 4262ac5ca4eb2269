use Rattle.pointing.proofs.MarkLaws.{marks_two}
use Rattle.book.specs.Pointing.{pointers_as}
use Rattle.pointing.proofs.bump_and.Goals as goal

pub returns : goal.returns
unfolding pointers_as
returns c = marks_two _ _ _ _ _ _ _ c.from.ensures c.bump.ensures c.from-2.ensures c.bump-2.ensures
