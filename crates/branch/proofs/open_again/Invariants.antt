use mathlib.Core.Path.{◌≡◌}
use Prim.Native.Nat.{◌-◌}
use Rattle.words.specs.Frame.{undo}
use Rattle.words.proofs.FrameLaws.{Small}
use Rattle.branch.proofs.open_again.Given as goal

abbrev pub invariant-loop-i : goal.invariant-loop-i
invariant-loop-i l = Small l.from (l.i - l.from) l.ws × (undo (l.i - l.from) l.from l.ws ≡ undo (l.to - l.from) l.from l.initial.ws)
