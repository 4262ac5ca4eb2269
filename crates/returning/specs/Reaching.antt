-- What a step of the code has reached before a candidate is tried, and going on from it.
use Rattle.std.specs.Prelude.{List, ℕ, ◌+◌, ◌-◌, ◌*◌, ◌≤◌, ◌<◌}
use Rattle.machine.specs.Machine.{Thread}
use Rattle.branch.specs.declared.Back.{Back}
use Rattle.seeking.specs.Seeking.{AllIndexed}
use Rattle.seeking.specs.Memo.{Memo}
use Rattle.machine.specs.declared.Ending.{Ending}
use Rattle.steps.specs.declared.Regs.{Regs}
use Rattle.steps.specs.declared.Stepped.{Stepped}
use Rattle.steps.specs.declared.Stepped.TheVariants.{Onward, Finished}
use Rattle.steps.specs.Search.{Leaves, phase, Stands, StepGives}
use Rattle.returning.specs.declared.Reached.{Reached}
use Rattle.returning.specs.declared.Reached.TheVariants.{Onward as ReachedOn, Finished as ReachedEnd, Clause}
use Rattle.returning.specs.Returns.{ToClause}
use Rattle.returning.specs.Passing.{Passes}

-- the step is done; or with so many units it has come to an atom and its next candidate
pub data ReachGives (book ws ws' : List ℕ) (r : Regs) (left : ℕ) (threads : List Thread) : Reached → Type 0 where
  reach_on : {r' : Regs} {used : ℕ} → StepGives book ws ws' r left threads (Onward used r') → ReachGives book ws ws' r left threads (ReachedOn used r')
  reach_end : {e : Ending} {used : ℕ} → StepGives book ws ws' r left threads (Finished e used) → ReachGives book ws ws' r left threads (ReachedEnd e used)
  reach_clause : {x : Back} {k used : ℕ} {threads' : List Thread} → used ≤ left → 0 < 2 * used + phase r.branch → Leaves ws ws'
      → ToClause book ws' k x threads' → Passes left used threads threads' → ReachGives book ws ws' r left threads (Clause used x k)

abbrev pub ReachContract : List ℕ → List ℕ → List ℕ → Regs → ℕ → Reached → Type 0
ReachContract book ws ws' r left o = (threads : List Thread) → Stands book ws r threads → ReachGives book ws ws' r left threads o

-- the candidate is there, and its units are within what is left
pub data CanGoOn (book ws : List ℕ) (left : ℕ) : Reached → Type 0 where
  is_on : {r : Regs} {used : ℕ} → CanGoOn book ws left (ReachedOn used r)
  is_end : {e : Ending} {used : ℕ} → CanGoOn book ws left (ReachedEnd e used)
  is_clause : {x : Back} {k used : ℕ} {threads : List Thread} → used ≤ left → AllIndexed book ws → ToClause book ws k x threads → CanGoOn book ws left (Clause used x k)

-- the memo where a step that had `left` units has come to
unfoldable pub MemoReached : List ℕ → List ℕ → ℕ → Reached → Type 0
MemoReached book ws left (ReachedOn used r) = Memo book ws r.programs (left - used)
MemoReached book ws left (ReachedEnd e used) = Unit {0}
MemoReached book ws left (Clause used x k) = Memo book ws x.programs (left - used)

-- whatever step reached this: with going on from it, it is a step of the search
abbrev pub GoesOn : List ℕ → List ℕ → List ℕ → ℕ → Reached → Stepped → Type 0
GoesOn book ws ws' left o s = (ws₀ : List ℕ) (r : Regs) (threads : List Thread) → ReachGives book ws₀ ws r left threads o → StepGives book ws₀ ws' r left threads s
