use Rattle.returning.specs.Passing.{later_by}
use mathlib.Core.Path.{refl}
use Rattle.returning.proofs.later.Goals as goal

pub returns-in-Onward : goal.returns-in-Onward
unfolding later_by
returns-in-Onward c = rw c.in-Onward.is refl

pub returns-in-Finished : goal.returns-in-Finished
unfolding later_by
returns-in-Finished c = rw c.in-Finished.is refl
