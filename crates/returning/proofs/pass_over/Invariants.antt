use Prim.Native.Nat.{◌-◌}
use Rattle.returning.proofs.PassLaws.{PassInv}
use Rattle.returning.proofs.pass_over.Given as goal

abbrev pub invariant-loop-first : goal.invariant-loop-first
invariant-loop-first l = PassInv l.book.bytes.now l.initial.ws l.ws l.k l.initial.y l.left l.first l.y l.used

abbrev pub decreases-loop-first : goal.decreases-loop-first
decreases-loop-first l = l.left - l.used
