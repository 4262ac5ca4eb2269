-- Passing over candidates: a clause whose head has at its first argument a term with another symbol or argument count than the atom's, read through.
-- The machine enters it and fails at the first pair: two units, and the next candidate is tried.
use Rattle.std.specs.Prelude.{◌≡◌, false, ◌&&◌, List, ℕ, suc, ◌+◌, ◌-◌, ◌/◌, ◌≤◌, ◌<◌, eqb, Option, Some, None}
use Rattle.book.specs.Records.{field}
use Rattle.machine.specs.declared.Tally.{Tally}
use Rattle.machine.specs.Machine.{Thread, Branch, Force}
use Rattle.machine.specs.Answers.{Line}
use Rattle.machine.specs.Run.{Request}
use Rattle.words.specs.Words.{word_for, sym_w, rec_of}
use Rattle.words.specs.Good.{ReadThrough}
use Rattle.branch.specs.declared.Back.{Back}
use Rattle.seeking.specs.declared.Place.{Place}
use Rattle.branch.specs.State.{IsRest}
use Rattle.seeking.specs.Seeking.{Sought}
use Rattle.steps.specs.Search.{run_on, spent_units}
use Rattle.steps.specs.declared.Stepped.{Stepped}
use Rattle.steps.specs.declared.Stepped.TheVariants.{Onward, Finished}
use Rattle.returning.specs.declared.Passed.{Passed}
use Rattle.returning.specs.declared.Passed.TheVariants.{Next, Through}
use Rattle.returning.specs.Returns.{Again, ToClause}
use Rattle.returning.specs.Reentry.{moved}

-- the first argument of an atom or head of record r
abbrev pub first_argument : List ℕ → ℕ → ℕ
first_argument book r = field book (field book r 3) 1

-- atom a at base e: its first argument, read through, is the term of word w
pub record FirstIs (book ws : List ℕ) (made a e w : ℕ) : Type 0 where
  pub some : 0 < field book a 2
  pub read : ReadThrough book made ws (word_for book e (first_argument book a)) w
  pub large : 4096 ≤ w

-- clause c can be entered, and its head's first argument is a term that is not of word w's symbol and argument count
pub record Clashes (book : List ℕ) (made w c : ℕ) : Type 0 where
  pub room : made + field book c 1 ≤ 2048
  pub term : field book (first_argument book (field book c 4)) 0 ≡ 2
  pub differ : (eqb (sym_w book w) (field book (first_argument book (field book c 4)) 1) && eqb (field book (rec_of w) 2) (field book (first_argument book (field book c 4)) 2)) ≡ false

-- from one list of threads to another with so many units
abbrev pub Passes : ℕ → ℕ → List Thread → List Thread → Type 0
Passes left used threads threads' = (q : Request) (y : Tally) (ls : List Line) → run_on q left y ls threads ≡ run_on q (left - used) (spent_units used y) ls threads'

-- the candidate after the next one
abbrev pub NextIs : List ℕ → List ℕ → Back → Option Place → Type 0
NextIs book ws x o = (rest : List Force) → IsRest book ws x.made x.programs x.node (x.index + 1) rest
    → Sought book ws x.made x.programs (field book (x.atom / 4096 - 1) 1) (field book (x.atom / 4096 - 1) 2) rest o

-- one candidate is passed over, onto the one after it or none
pub data OnePass (book ws : List ℕ) (k : ℕ) (x : Back) (threads : List Thread) : Option Place → Type 0 where
  moves : {p : Place} {threads' : List Thread} → ToClause book ws k (moved x p.program p.clause) threads'
      → ((r : Request) (n : ℕ) (y : Tally) (ls : List Line) → run_on r (suc (suc n)) y ls threads ≡ run_on r n (spent_units 2 y) ls threads') → OnePass book ws k x threads (Some p)
  gone : {b : Branch} {ts : List Thread} → Again book ws k x b ts
      → ((r : Request) (n : ℕ) (y : Tally) (ls : List Line) → run_on r (suc (suc n)) y ls threads ≡ run_on r n (spent_units 2 y) ls ts) → OnePass book ws k x threads None

-- all that clash are passed over, with so many units: the candidate that is next, and the one after it; or there is none left
pub data PassGives (book ws : List ℕ) (k : ℕ) (x : Back) (left : ℕ) (threads : List Thread) : Passed → Type 0 where
  comes : {y : Back} {o : Option Place} {used : ℕ} {threads' : List Thread} → y.programs ≡ x.programs → used ≤ left → NextIs book ws y o → ToClause book ws k y threads' → Passes left used threads threads'
      → PassGives book ws k x left threads (Next y o used)
  ends : {y : Back} {used : ℕ} {b : Branch} {ts : List Thread} → y.programs ≡ x.programs → 0 < used → used ≤ left → Again book ws k y b ts → Passes left used threads ts → PassGives book ws k x left threads (Through y used)

-- a step after so many units more
unfoldable pub later_by : ℕ → Stepped → Stepped
later_by used (Onward n r) = Onward (used + n) r
later_by used (Finished e n) = Finished e (used + n)
