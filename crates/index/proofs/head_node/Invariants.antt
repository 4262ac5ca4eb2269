use Prim.Native.Nat.{ℕ, ◌-◌, ◌≤◌}
use Rattle.index.specs.Index.{Listed}
use Rattle.index.proofs.HeadLaws.{OnList}
use Rattle.index.proofs.head_node.Given as goal

abbrev pub invariant-loop-z : goal.invariant-loop-z
invariant-loop-z l = (i : ℕ) → i ≤ l.run.count → Listed l.book.bytes.now l.run.first l.run.count i l.ws → OnList l.book.bytes.now l.run.first l.run.count l.head.symbol l.head.count i l.z

abbrev pub decreases-loop-z : goal.decreases-loop-z
decreases-loop-z l = l.run.count - l.z
