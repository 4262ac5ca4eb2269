use Rattle.looks.proofs.LookLoop.{LookInv}
use Rattle.looks.proofs.look.Given as goal

abbrev pub invariant-loop-used : goal.invariant-loop-used
invariant-loop-used l = LookInv l.book.bytes.now l.made l.initial.ws l.v l.t l.left l.ws l.s l.used
