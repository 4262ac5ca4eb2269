use mathlib.Core.Path.{◌≡◌}
use Prim.Native.Nat.{◌-◌}
use Rattle.book.specs.Scan.{lower}
use Rattle.book.specs.Scope.{over_links, own_clause_scope}
use Rattle.scope.specs.Lowest.{verdict_of}
use Rattle.scope.proofs.own_clauses.Given as goal

abbrev pub invariant-loop-l : goal.invariant-loop-l
invariant-loop-l l = lower (verdict_of l.v) (over_links l.book (own_clause_scope l.book) l.l (l.e - l.l)) ≡ over_links l.book (own_clause_scope l.book) l.first l.n
