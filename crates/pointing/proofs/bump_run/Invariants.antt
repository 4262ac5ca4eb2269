use Rattle.pointing.specs.Marks.{bump_all}
use Rattle.book.specs.Records.{members}
use lib.ListN.{length}
use Prim.Native.Nat.{◌-◌}
use mathlib.Core.Path.{◌≡◌}
use Rattle.pointing.proofs.bump_run.Given as goal

abbrev pub invariant-loop-l : goal.invariant-loop-l
invariant-loop-l l = (length l.ws ≡ length l.initial.ws) × (bump_all (members l.l (l.e - l.l)) l.ws ≡ bump_all (members l.first l.n) l.initial.ws)
