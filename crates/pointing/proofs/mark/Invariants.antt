use Rattle.pointing.specs.Marks.{bump_all}
use Rattle.book.specs.Pointing.{all_pointers}
use lib.ListN.{length}
use Prim.Native.Nat.{◌-◌}
use mathlib.Core.Path.{◌≡◌}
use Rattle.pointing.proofs.mark.Given as goal

abbrev pub invariant-loop-i : goal.invariant-loop-i
invariant-loop-i l = (length l.ws ≡ length l.initial.ws) × (bump_all (all_pointers l.book l.i (l.n - l.i)) l.ws ≡ bump_all (all_pointers l.book 0 l.n) l.initial.ws)
