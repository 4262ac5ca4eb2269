use mathlib.Core.Path.{◌≡◌}
use Prim.Native.Nat.{◌-◌}
use Rattle.index.specs.Runs.{next_match}
use Rattle.index.specs.Index.{InBucket}
use Rattle.supposed.specs.Supposed.{small_bucket}
use Rattle.supposed.proofs.supposed_along.Given as goal

abbrev pub invariant-loop-i : goal.invariant-loop-i
invariant-loop-i l = InBucket (small_bucket l.run.count) l.book.bytes.now l.run.first l.run.count (small_bucket l.run.count l.head.symbol l.head.count) l.i × (next_match l.book.bytes.now l.head.symbol l.head.count l.run.first l.i (l.run.count - l.i) ≡ next_match l.book.bytes.now l.head.symbol l.head.count l.run.first l.j (l.run.count - l.j))

abbrev pub decreases-loop-i : goal.decreases-loop-i
decreases-loop-i l = l.run.count - l.i
