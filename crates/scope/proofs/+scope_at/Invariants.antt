use Rattle.std.proofs.Common.{◌-◌, ◌≡◌, ℕ, ◌<◌}
use Rattle.book.specs.Scope.{scope_at}
use Rattle.scope.proofs.PartLaws.{found}
use Rattle.scope.specs.Lowest.{verdict_of}
use Rattle.scope.proofs.+scope_at.Given as goal

abbrev pub decreases-scope_at : goal.decreases-scope_at
decreases-scope_at l = l.r

abbrev pub invariant-loop-i : goal.invariant-loop-i
invariant-loop-i l = (d : ℕ) → l.r < d → found l.book d l.p (verdict_of l.v) l.i (l.m - l.i) ≡ scope_at l.book d l.n l.r
