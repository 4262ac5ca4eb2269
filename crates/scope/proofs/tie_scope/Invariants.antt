use mathlib.Core.List.{[]}
use mathlib.Core.Path.{◌≡◌}
use Prim.Native.Nat.{◌+◌, ◌-◌}
use lib.ListN.{length}
use Rattle.book.specs.Scan.{lower}
use Rattle.scope.specs.Ties.{earlier, tie_run}
use Rattle.scope.specs.Lowest.{verdict_of}
use Rattle.scope.proofs.tie_scope.Given as goal

abbrev pub invariant-loop-k : goal.invariant-loop-k
invariant-loop-k l = (length l.owns ≡ 64) × (length l.outers ≡ 64)
    × (lower (verdict_of l.v) (tie_run l.book l.asked l.own l.outer (l.first + l.k) (l.n - l.k) (earlier l.owns l.k) (earlier l.outers l.k)) ≡ tie_run l.book l.asked l.own l.outer l.first l.n [] [])
