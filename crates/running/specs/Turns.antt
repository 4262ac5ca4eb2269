-- The run, one turn after another: what the code keeps between two turns, and what a turn gives.
use Rattle.std.specs.Prelude.{◌≡◌, Bool, true, false, Option, Some, None, List, ℕ, ◌+◌, ◌-◌, ◌*◌, ◌/◌, ◌≤◌, ◌<◌, eqb, length}
use Rattle.book.specs.Records.{field, last_record}
use Rattle.book.proofs.Accepted.{Accepted}
use Rattle.machine.specs.declared.Ending.{Ending}
use Rattle.machine.specs.declared.Tally.{Tally}
use Rattle.machine.specs.Machine.{Thread}
use Rattle.machine.specs.Answers.{Line}
use Rattle.machine.specs.Run.{Request, Result}
use Rattle.machine.specs.Call.{filled_buffer}
use Rattle.steps.specs.declared.Branch.{Branch as Held}
use Rattle.steps.specs.declared.Regs.{Regs}
use Rattle.steps.specs.declared.Stepped.{Stepped}
use Rattle.steps.specs.declared.Stepped.TheVariants.{Onward, Finished}
use Rattle.steps.specs.Search.{run_on, spent_units, Stands, phase}
use Rattle.seeking.specs.Seeking.{AllIndexed}
use Rattle.seeking.specs.Memo.{Memo}
use Rattle.running.specs.declared.Turned.{Turned}
use Rattle.running.specs.declared.Turned.TheVariants.{On, Over}

-- what a call that is not refused makes sure of, with `size` bytes of answer buffer
pub record Taken (book : List ℕ) (unknowns wanted size : ℕ) : Type 0 where
  pub accepted : Accepted book
  pub unknowns_are : unknowns ≡ field book (last_record book) 4
  pub wanted_some : 1 ≤ wanted
  pub wanted_most : wanted ≤ 64
  pub size_most : size ≤ 65536

-- what the run is asked for
abbrev pub request_of : ℕ → ℕ → ℕ → Request
request_of unknowns wanted size = record { unknowns = unknowns; wanted = wanted; places = size / 8 }

-- The run is midway, and `whole` is what it comes to: the registers and the workspace stand for threads, and going on from these gives the whole result.
-- The buffer has the records given so far, up to byte `end`, and then zeros.
pub record Midway (book : List ℕ) (unknowns wanted size budget : ℕ) (ws out : List ℕ) (r : Regs) (y : Tally) (end : ℕ) (whole : Result) : Type 0 where
  pub threads : List Thread
  pub lines : List Line
  pub stands : Stands book ws r threads
  pub indexed : AllIndexed book ws
  pub memo : Memo book ws r.programs (budget - y.units)
  pub within : y.units ≤ budget
  pub fewer : y.answers < wanted
  pub assumed_few : y.assumed ≤ y.answers
  pub room : 8 * length lines ≤ size
  pub buffer : out ≡ filled_buffer size lines
  pub end_is : end ≡ 8 * length lines
  pub same_run : whole ≡ run_on (request_of unknowns wanted size) (budget - y.units) y lines threads

-- how much is ahead of the run at most: it falls with each turn
abbrev pub ahead : ℕ → Regs → Tally → ℕ
ahead budget r y = 2 * (budget - y.units) + phase r.branch

-- what a turn gives: the run is midway again; or it has ended so
pub data TurnGives (book : List ℕ) (unknowns wanted size budget : ℕ) (ws' out' : List ℕ) (r : Regs) (y : Tally) (whole : Result) : Turned → Type 0 where
  turns_on : {r' : Regs} {y' : Tally} {end' : ℕ} → Midway book unknowns wanted size budget ws' out' r' y' end' whole → ahead budget r' y' < ahead budget r y
      → TurnGives book unknowns wanted size budget ws' out' r y whole (On y' r' end')
  turns_over : {e : Ending} {y' : Tally} → whole.ending ≡ e → whole.tally ≡ y' → out' ≡ filled_buffer size whole.lines
      → TurnGives book unknowns wanted size budget ws' out' r y whole (Over e y')

-- the list of goals of the branch in hand is empty: that branch
unfoldable pub answer_due_by : Option Held → Option Held
answer_due_by (Some held) = elim (eqb held.cell 0) [ true ↦ Some held | false ↦ None ]
answer_due_by None = None

abbrev pub answer_due : Regs → Option Held
answer_due r = answer_due_by r.branch

-- one unit and one answer more on a tally
unfoldable pub one_more : Tally → Bool → Tally
one_more y supposed = record
    { units = y.units + 1; answers = y.answers + 1; assumed = elim supposed [ true ↦ y.assumed + 1 | false ↦ y.assumed ] }

-- a turn that is a step
unfoldable pub turn_by : Tally → ℕ → Stepped → Turned
turn_by y end (Onward n r) = On (spent_units n y) r end
turn_by y end (Finished e n) = Over e (spent_units n y)
