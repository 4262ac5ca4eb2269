use mathlib.Core.Path.{◌≡◌}
use Prim.Native.Nat.{◌-◌}
use Rattle.book.specs.declared.Test.TheVariants.{Kinds}
use Rattle.book.specs.Records.{records}
use Rattle.book.specs.Scan.{lowest_failing}
use Rattle.book.specs.Refusals.{kind_ok, kind_test}
use Rattle.refusals.specs.Passes.{Looked}
use Rattle.refusals.proofs.one_pass.Given as goal

abbrev pub invariant-loop-i : goal.invariant-loop-i
invariant-loop-i l = (lowest_failing Kinds (kind_ok l.book) l.i (records l.book - l.i) ≡ kind_test l.book) × Looked l.book (records l.book) l.i l.low
