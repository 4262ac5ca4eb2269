use mathlib.Core.Path.{◌≡◌}
use Prim.Native.Nat.{◌+◌, ◌<◌}
use Rattle.machine.specs.Store.{walk}
use Rattle.words.specs.Words.{term_w, store_of}
use Rattle.words.proofs.read_variable.Given as goal

abbrev pub invariant-loop-made : goal.invariant-loop-made
invariant-loop-made l = (l.at < l.made) × (walk (store_of l.book.bytes.now l.ws l.made) (term_w l.book.bytes.now (l.v + 1)) ≡ walk (store_of l.book.bytes.now l.ws l.made) (term_w l.book.bytes.now (l.at + 1)))

abbrev pub decreases-loop-made : goal.decreases-loop-made
decreases-loop-made l = l.at
