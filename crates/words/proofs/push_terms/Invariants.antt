use mathlib.Core.Path.{◌≡◌}
use Prim.Native.Nat.{◌+◌, ◌-◌}
use Rattle.words.specs.Words.{push_terms}
use Rattle.words.proofs.push_terms.Given as goal

abbrev pub invariant-loop-i : goal.invariant-loop-i
invariant-loop-i l = l.ws ≡ push_terms l.book.bytes.now l.b (l.first + l.i) (l.m - l.i) l.n l.initial.ws
