use mathlib.Core.Path.{◌≡◌}
use lib.ListN.{length}
use Rattle.machine.specs.Call.{run_of}
use Rattle.running.specs.Turns.{Midway, ahead}
use Rattle.running.proofs.run.Given as goal

abbrev pub invariant-loop-ending : goal.invariant-loop-ending
invariant-loop-ending l = (length l.ws ≡ length l.initial.ws) × (length l.out ≡ length l.initial.out) × Midway l.book.bytes.now l.unknowns l.wanted (length l.initial.out) l.budget l.ws l.out l.r l.y l.end (run_of l.book.bytes.now l.budget l.wanted (length l.initial.out))

abbrev pub decreases-loop-ending : goal.decreases-loop-ending
decreases-loop-ending l = ahead l.budget l.r l.y
