use Prim.Native.Nat.{◌-◌, ◌≤◌, ◌<◌}
use Rattle.unifier.specs.Pairs.{at_runs}
use Rattle.unifier.proofs.TurnLaws.{UnifyInv}
use Rattle.unifier.proofs.unify.Given as goal

abbrev pub invariant-loop-more : goal.invariant-loop-more
invariant-loop-more l = (l.more ≤ l.left) × (0 < l.s.count) × UnifyInv l.book.bytes.now l.made l.trail l.left (at_runs l.book.bytes.now l.base l.first l.beside l.other l.m) l.initial.ws l.ws l.s l.bound (l.left - l.more)

abbrev pub decreases-loop-more : goal.decreases-loop-more
decreases-loop-more l = l.more
