use mathlib.Core.Path.{◌≡◌}
use Prim.Native.Nat.{◌-◌, ◌<◌}
use Rattle.book.specs.Records.{records}
use Rattle.following.specs.Plain.{follow_on}
use Rattle.following.proofs.follow.Given as goal

abbrev pub invariant-loop-rules : goal.invariant-loop-rules
invariant-loop-rules l = (follow_on l.book.bytes.now l.g l.rules (l.most - l.rules) ≡ follow_on l.book.bytes.now l.goal 0 l.most) × (l.g < records l.book.bytes.now)
