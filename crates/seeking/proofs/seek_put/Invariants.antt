use mathlib.Core.Path.{◌≡◌}
use mathlib.Core.List.{List}
use Prim.Native.Nat.{ℕ}
use Rattle.machine.specs.Machine.{Force, candidates}
use Rattle.branch.specs.State.{IsRest}
use Rattle.seeking.specs.Seeking.{Standing}
use Rattle.seeking.proofs.seek_put.Given as goal

abbrev pub invariant-loop-q : goal.invariant-loop-q
invariant-loop-q l = Standing l.book.bytes.now l.ws l.made l.top l.q 0 × ((md tp : ℕ) (rest₀ : List Force) → IsRest l.book.bytes.now l.ws md tp l.p 0 rest₀ → (rest : List Force) × IsRest l.book.bytes.now l.ws md tp l.q 0 rest × (candidates l.head.symbol l.head.count rest ≡ candidates l.head.symbol l.head.count rest₀))

abbrev pub decreases-loop-q : goal.decreases-loop-q
decreases-loop-q l = l.q
