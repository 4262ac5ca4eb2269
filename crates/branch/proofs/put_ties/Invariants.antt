use mathlib.Core.Path.{◌≡◌}
use Prim.Native.Nat.{◌+◌, ◌-◌}
use Rattle.branch.specs.Entries.{put_ties}
use Rattle.branch.proofs.put_ties.Given as goal

abbrev pub invariant-loop-i : goal.invariant-loop-i
invariant-loop-i l = l.ws ≡ put_ties l.book.bytes.now l.made l.outer (l.first + l.i) (l.t - l.i) l.initial.ws
