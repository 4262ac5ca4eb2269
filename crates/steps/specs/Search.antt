-- The run by its threads: what the machine does from a list of threads, the first in hand, and how the code's registers stand for that list.
use Rattle.std.specs.Prelude.{◌≡◌, Option, Some, None, List, ◌∷◌, ℕ, ◌+◌, ◌-◌, ◌*◌, ◌≤◌, ◌<◌, length}
use Rattle.machine.specs.declared.Ending.{Ending}
use Rattle.machine.specs.declared.Tally.{Tally}
use Rattle.machine.specs.Machine.{Thread, solving, Branch}
use Rattle.machine.specs.Answers.{Line}
use Rattle.machine.specs.Run.{Request, Outgoing, next, ended, go_on, Result, run}
use Rattle.words.specs.Frame.{Keeps}
use Rattle.branch.specs.State.{Tops, IsBranch, Sound, Waiting}
use Rattle.seeking.specs.Memo.{Memo}
use Rattle.steps.specs.declared.Branch.{Branch as Held}
use Rattle.steps.specs.declared.Regs.{Regs}
use Rattle.steps.specs.declared.Stepped.{Stepped}
use Rattle.steps.specs.declared.Stepped.TheVariants.{Onward, Finished}

-- n units more from a list of threads
unfoldable pub run_out : Request → ℕ → Outgoing → Result
run_out q n (next s) = run q n s
run_out q n (ended e y ls) = record { ending = e; tally = y; lines = ls }

unfoldable pub run_on : Request → ℕ → Tally → List Line → List Thread → Result
run_on q n y ls ts = run_out q n (go_on y ls ts)

-- n units more on a tally
unfoldable pub spent_units : ℕ → Tally → Tally
spent_units n y = record { units = y.units + n; answers = y.answers; assumed = y.assumed }

abbrev pub tops_of : Regs → Tops
tops_of r = record { made = r.made; trail = r.trail; cells = r.cells; programs = r.programs; alternatives = r.alternatives }

-- going back: there is no branch in hand
unfoldable pub back_regs : Regs → Regs
back_regs r = record { made = r.made; trail = r.trail; cells = r.cells; programs = r.programs; alternatives = r.alternatives; branch = None }

-- THE REPRESENTATION: the registers and the workspace stand for the threads. In the mode of going back there is no thread in hand.
pub data Stands (book ws : List ℕ) (r : Regs) : List Thread → Type 0 where
  goal_in_hand : {held : Held} {b : Branch} {threads : List Thread} → r.branch ≡ Some held → Sound book ws (tops_of r)
      → IsBranch book ws (tops_of r) held.cell held.taken held.supposed b → Waiting book ws (tops_of r) threads → Stands book ws r (solving b ∷ threads)
  going_back : {threads : List Thread} → r.branch ≡ None → Sound book ws (tops_of r) → Waiting book ws (tops_of r) threads → Stands book ws r threads

-- what a step leaves alone: the index of the question's own run, and the words between the alternatives and the memo
pub record Leaves (ws ws' : List ℕ) : Type 0 where
  pub index : Keeps 4096 6144 ws ws'
  pub free : Keeps 12304 13328 ws ws'

-- 1 while going back, 0 with a branch in hand: a step without a unit can only go from the first to the second, so the search ends
abbrev pub phase : Option Held → ℕ
phase (Some held) = 0
phase None = 1

-- WHAT ONE STEP OF THE CODE GIVES, with `left` units of the budget: it goes on, with so many units; or the run has ended.
-- A step takes a goal, or goes back and, if the alternative is a clause, enters it and unifies.
pub data StepGives (book ws ws' : List ℕ) (r : Regs) (left : ℕ) (threads : List Thread) : Stepped → Type 0 where
  steps_on : {r' : Regs} {used : ℕ} {threads' : List Thread} → used ≤ left → phase r'.branch < 2 * used + phase r.branch → Leaves ws ws'
      → Stands book ws' r' threads'
      → ((q : Request) (y : Tally) (ls : List Line) → run_on q left y ls threads ≡ run_on q (left - used) (spent_units used y) ls threads')
      → StepGives book ws ws' r left threads (Onward used r')
  steps_end : {e : Ending} {used : ℕ} → used ≤ left → length ws' ≡ length ws
      → ((q : Request) (y : Tally) (ls : List Line) → run_on q left y ls threads ≡ record { ending = e; tally = spent_units used y; lines = ls })
      → StepGives book ws ws' r left threads (Finished e used)

-- the units of a step
abbrev pub units_of : Stepped → ℕ
units_of (Onward n r) = n
units_of (Finished e n) = n

-- the memo after a step that had `left` units
unfoldable pub MemoStepped : List ℕ → List ℕ → ℕ → Stepped → Type 0
MemoStepped book ws left (Onward used r) = Memo book ws r.programs (left - used)
MemoStepped book ws left (Finished e used) = Unit {0}

-- the contract of a step: whatever threads the registers and the workspace stand for
abbrev pub StepContract : List ℕ → List ℕ → List ℕ → Regs → ℕ → Stepped → Type 0
StepContract book ws ws' r left o = (threads : List Thread) → Stands book ws r threads → StepGives book ws ws' r left threads o
