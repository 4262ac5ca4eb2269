use mathlib.Core.Path.{refl}
use Rattle.taking.specs.Takes.{put_program}
use Rattle.taking.proofs.put_program.Goals as goal

pub returns : goal.returns
unfolding put_program
returns c = refl
