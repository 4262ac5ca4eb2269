-- How entering came out, as the code says it.
use mathlib.Core.Path.{◌≡◌, refl}
use Prim.Native.Nat.{ℕ, ◌+◌}
use Rattle.std.proofs.Common.{Some, None}
use Rattle.machine.specs.declared.Limit.{Limit}
use Rattle.machine.specs.declared.Ending.TheVariants.{Stopped as StoppedEnding}
use Rattle.looks.specs.declared.How.TheVariants.{Done, Failed, Stopped}
use Rattle.unifier.specs.declared.Unified.{Unified}
use Rattle.branch.specs.declared.Back.{Back}
use Rattle.steps.specs.declared.Stepped.TheVariants.{Onward, Finished}
use Rattle.returning.specs.declared.Front.{Front}
use Rattle.returning.specs.Reentry.{branch_from, regs_of, outcome_by, outcome_of}

module _ (x : Back) (made n : ℕ) (l : Front) (u : Unified) where
  pub outcome_done : u.how ≡ Done → Onward (u.used + 1) (regs_of x made n l.cells u.trail (Some (branch_from x l.cell))) ≡ outcome_of x made n l u
  unfolding outcome_by
  outcome_done e = rw e refl

  pub outcome_failed : u.how ≡ Failed → Onward (u.used + 1) (regs_of x made n l.cells u.trail None) ≡ outcome_of x made n l u
  unfolding outcome_by
  outcome_failed e = rw e refl

  pub outcome_stopped : (m : Limit) → u.how ≡ Stopped m → Finished (StoppedEnding m) (u.used + 1) ≡ outcome_of x made n l u
  unfolding outcome_by
  outcome_stopped m e = rw e refl
