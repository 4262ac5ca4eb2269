use mathlib.Core.Path.{refl}
use mathlib.Core.List.{[]}
use Rattle.pointing.proofs.MarkLaws.{marks_run}
use Rattle.book.specs.Pointing.{pointers_as}
use Rattle.book.specs.Records.{at, members}
use Rattle.pointing.specs.Marks.{bump_all}
use Rattle.pointing.proofs.bump_suppose.Goals as goal

pub returns : goal.returns
unfolding pointers_as bump_all
returns c =
    marks_run _ _ (members (at c.args.r 1) (at c.args.r 2)) [] _ _ _ _ c.bump_run.ensures c.from.ensures c.bump.ensures refl
