-- The next candidate of an atom is tried: where its clause is, the alternative for those after it, its body's cell, and how it came out.
use Rattle.std.specs.Prelude.{◌≡◌, true, false, List, ◌++◌, ℕ, ◌+◌, ◌*◌, ◌≤◌, eqb, get_or, Option, Some, None}
use Rattle.book.specs.Records.{field, last_record}
use Rattle.machine.specs.Machine.{Thread, candidates, try_all}
use Rattle.machine.specs.declared.Ending.TheVariants.{Stopped as StoppedEnding}
use Rattle.words.specs.Words.{term_word, rec_of, base_of}
use Rattle.words.specs.Frame.{Keeps}
use Rattle.looks.specs.declared.How.{How}
use Rattle.looks.specs.declared.How.TheVariants.{Done, Failed, Stopped}
use Rattle.unifier.specs.declared.Unified.{Unified}
use Rattle.branch.specs.declared.Back.{Back}
use Rattle.branch.specs.State.{Waiting, put_cell}
use Rattle.steps.specs.declared.Branch.{Branch as Held}
use Rattle.steps.specs.declared.Regs.{Regs}
use Rattle.steps.specs.declared.Stepped.{Stepped}
use Rattle.steps.specs.declared.Stepped.TheVariants.{Onward, Finished}
use Rattle.steps.specs.Search.{Leaves, StepGives}
use Rattle.returning.specs.declared.InForce.{InForce}
use Rattle.returning.specs.declared.Front.{Front}
use Rattle.returning.specs.Returns.{tops_at, atom_of, ToClause}

-- the record of clause i of program q, and where the variables of its suppose goal's holder begin
unfoldable pub place_of : List ℕ → List ℕ → ℕ → ℕ → InForce
place_of book ws q i = elim (eqb q 0) [
  | true ↦ record { clause = field book (field book (last_record book) 1 + i) 1; outer = 0 }
  | false ↦ record { clause = field book (field book (rec_of (get_or ws (8200 + 3 * q) 0)) 1 + i) 1; outer = base_of (get_or ws (8200 + 3 * q) 0) }
]

-- the alternative with the next candidate at clause i of program q
abbrev pub moved : Back → ℕ → ℕ → Back
moved x q i = record
    { made = x.made; trail = x.trail; cells = x.cells; programs = x.programs; cell = x.cell; taken = x.taken; supposed = x.supposed; atom = x.atom; call = x.call; node = q; index = i }

-- the alternative for the candidates after this one is kept in the place of k; with none it is dropped, and there are n now
pub record Renewed (book ws ws' : List ℕ) (k : ℕ) (x : Back) (threads : List Thread) (X : ToClause book ws k x threads) (n : ℕ) : Type 0 where
  pub below : Keeps 0 (9744 + 5 * k) ws ws'
  pub memo : Keeps 13568 15616 ws ws'
  pub leaves : Leaves ws ws'
  pub most : n ≤ k + 1
  pub waiting : Waiting book ws' (tops_at x n) (try_all X.b (atom_of book X.a X.e X.program) (candidates (field book X.a 1) (field book X.a 2) X.after) ++ X.ts)

-- "the body joins the front of the list with the program of the call": its variables are those of the clause, numbered on from those made
unfoldable pub body_words : List ℕ → ℕ → Back → List ℕ → List ℕ
body_words book c x ws = elim (eqb (field book c 5) 1) [ true ↦ put_cell x.cells (term_word (field book c 6) x.made) x.call x.cell ws | false ↦ ws ]

unfoldable pub front_of : List ℕ → ℕ → Back → Front
front_of book c x = elim (eqb (field book c 5) 1) [ true ↦ record { cell = x.cells; cells = x.cells + 1 } | false ↦ record { cell = x.cell; cells = x.cells } ]

-- the registers after entering: `made` variables, n alternatives
abbrev pub regs_of : Back → ℕ → ℕ → ℕ → ℕ → Option Held → Regs
regs_of x made n cells trail branch = record { made = made; trail = trail; cells = cells; programs = x.programs; alternatives = n; branch = branch }

-- the branch of an alternative, with this cell for the first of its list
abbrev pub branch_from : Back → ℕ → Held
branch_from x cell = record { cell = cell; taken = x.taken; supposed = eqb x.supposed 1 }

-- the registers with the numbers of an alternative, n alternatives left: its branch is in hand again, or, as it has no candidate left, none is
abbrev pub regs_kept : Back → ℕ → Option Held → Regs
regs_kept x n branch = regs_of x x.made n x.cells x.trail branch

-- the clause entered is one unit more than unifying took
unfoldable pub outcome_by : Back → ℕ → ℕ → Front → ℕ → ℕ → How → Stepped
outcome_by x made n l trail used Done = Onward (used + 1) (regs_of x made n l.cells trail (Some (branch_from x l.cell)))
outcome_by x made n l trail used Failed = Onward (used + 1) (regs_of x made n l.cells trail None)
outcome_by x made n l trail used (Stopped m) = Finished (StoppedEnding m) (used + 1)

abbrev pub outcome_of : Back → ℕ → ℕ → Front → Unified → Stepped
outcome_of x made n l u = outcome_by x made n l u.trail u.used u.how

-- what trying the next candidate gives
abbrev pub Tries : List ℕ → List ℕ → List ℕ → ℕ → Back → ℕ → Stepped → Type 0
Tries book ws ws' k x left o = (r : Regs) (threads : List Thread) → r.branch ≡ None → ToClause book ws k x threads → StepGives book ws ws' r left threads o
