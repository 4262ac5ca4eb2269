use mathlib.Core.Path.{refl}
use Rattle.running.specs.Turns.{turn_by}
use Rattle.running.proofs.step_taken.Goals as goal

pub returns-in-Onward : goal.returns-in-Onward
unfolding turn_by
returns-in-Onward c = rw (c.in-Onward.is, c.spend.ensures) refl

pub returns-in-Finished : goal.returns-in-Finished
unfolding turn_by
returns-in-Finished c = rw (c.in-Finished.is, c.spend-in-Finished.ensures) refl
