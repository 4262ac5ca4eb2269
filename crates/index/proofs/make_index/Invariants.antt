use Rattle.index.specs.Index.{IndexedFrom}
use Rattle.index.proofs.make_index.Given as goal

abbrev pub invariant-loop-i : goal.invariant-loop-i
invariant-loop-i l = IndexedFrom l.book.bytes.now l.run.first l.run.count l.i l.initial.ws l.ws
