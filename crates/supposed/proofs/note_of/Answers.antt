use mathlib.Core.Path.{refl}
use Rattle.supposed.specs.Supposed.{note_of}
use Rattle.supposed.proofs.note_of.Goals as goal

pub returns : goal.returns
unfolding note_of
returns c = refl
