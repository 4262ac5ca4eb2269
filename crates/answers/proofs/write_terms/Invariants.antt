use Prim.Native.Nat.{◌-◌}
use lib.ListN.{length}
use Rattle.answers.proofs.TermLaws.{WriteInv}
use Rattle.answers.proofs.write_terms.Given as goal

abbrev pub invariant-loop-progress : goal.invariant-loop-progress
invariant-loop-progress l = WriteInv l.book.bytes.now l.made l.answer l.initial.ws l.initial.out l.at l.terms l.ws l.out l.progress.listed l.progress.numbered l.end

abbrev pub decreases-loop-progress : goal.decreases-loop-progress
decreases-loop-progress l = length l.initial.out - l.end
