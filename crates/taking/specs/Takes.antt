-- What taking a goal does to the registers and the words. It is exactly one unit, but where plain rules lead on.
use Rattle.std.specs.Prelude.{◌≡◌, true, List, ℕ, ◌+◌, ◌-◌, ◌*◌, ◌/◌, ◌%◌, ◌≤◌, ◌<◌, length, get_or, set}
use Rattle.book.specs.Records.{field, records}
use Rattle.machine.specs.Machine.{Force}
use Rattle.words.specs.Words.{term_word}
use Rattle.branch.specs.declared.Back.{Back}
use Rattle.seeking.specs.declared.Place.{Place}
use Rattle.std.specs.Prelude.{Option, Some, None}
use Rattle.branch.specs.State.{IsProgram, put_cell, flag}
use Rattle.seeking.specs.Seeking.{Sought}
use Rattle.branch.specs.Alternatives.{keep_words}
use Rattle.following.specs.declared.Followed.{Followed}
use Rattle.following.specs.Plain.{Chain}
use Rattle.steps.specs.declared.Branch.{Branch as Held}
use Rattle.steps.specs.declared.Regs.{Regs}
use Rattle.steps.specs.Search.{back_regs}
use Rattle.returning.specs.declared.Reached.{Reached}
use Rattle.returning.specs.declared.Reached.TheVariants.{Onward, Clause}
use Rattle.taking.specs.declared.Cell.{Cell}

-- goal cell c, read
unfoldable pub cell_of : List ℕ → ℕ → Cell
cell_of ws c = record {
  word = get_or ws (6144 + 2 * c) 0;
  goal = get_or ws (6144 + 2 * c) 0 / 4096 - 1;
  base = get_or ws (6144 + 2 * c) 0 % 4096;
  program = get_or ws (6144 + 2 * c + 1) 0 / 4096;
  next = get_or ws (6144 + 2 * c + 1) 0 % 4096;
}

-- there is room for what taking the goal of cell x writes
abbrev pub Room : List ℕ → Regs → Held → Cell → Type 0
Room ws r held x =
    ((x.goal < 4096) × (x.base < 4096) × (x.program < 4096) × (x.next < 4096))
    × ((r.made < 4096) × (r.trail < 4096) × (r.cells + 1 < 1026) × (r.programs < 514) × (r.alternatives < 512) × (held.taken < 512) × (length ws ≡ 16384))

-- the registers with a branch in hand whose first goal is in the newest cell
unfoldable pub in_hand : Regs → Held → ℕ → ℕ → ℕ → Regs
in_hand r held cell programs alternatives = record {
  made = r.made;
  trail = r.trail;
  cells = cell + 1;
  programs = programs;
  alternatives = alternatives;
  branch = Some (record { cell = cell; taken = held.taken + 1; supposed = held.supposed });
}

-- And: left goal then right goal, both with the program of the whole.
unfoldable pub and_words : List ℕ → Regs → Cell → List ℕ → List ℕ
and_words book r x ws =
    put_cell (r.cells + 1) (term_word (field book x.goal 1) x.base) x.program r.cells
    (put_cell r.cells (term_word (field book x.goal 2) x.base) x.program x.next ws)

unfoldable pub and_regs : Regs → Held → Regs
and_regs r held = in_hand r held (r.cells + 1) r.programs r.alternatives

-- Or: left is tried first; right is kept as an alternative. Its goal is already on the list, so no atom is kept with it.
unfoldable pub or_kept : Regs → Held → Back
or_kept r held = record {
  made = r.made;
  trail = r.trail;
  cells = r.cells + 1;
  programs = r.programs;
  cell = r.cells;
  taken = held.taken + 1;
  supposed = flag held.supposed;
  atom = 0;
  call = 0;
  node = 0;
  index = 0;
}

unfoldable pub or_words : List ℕ → Regs → Held → Cell → List ℕ → List ℕ
or_words book r held x ws =
    put_cell (r.cells + 1) (term_word (field book x.goal 1) x.base) x.program x.next
    (keep_words (put_cell r.cells (term_word (field book x.goal 2) x.base) x.program x.next ws) r.alternatives (or_kept r held))

unfoldable pub or_regs : Regs → Held → Regs
or_regs r held = in_hand r held (r.cells + 1) r.programs (r.alternatives + 1)

-- Suppose: its goal, with the supposed clauses in written order put before the present program. The new program's mark is the units that are left.
unfoldable pub put_program : ℕ → ℕ → ℕ → ℕ → List ℕ → List ℕ
put_program p w q mark ws = set (set (set ws (8200 + 3 * p) w) (8200 + 3 * p + 1) q) (8200 + 3 * p + 2) mark

unfoldable pub suppose_words : List ℕ → Regs → Cell → ℕ → List ℕ → List ℕ
suppose_words book r x left ws =
    put_cell r.cells (term_word (field book x.goal 3) x.base) r.programs x.next (put_program r.programs (term_word x.goal x.base) x.program left ws)

unfoldable pub suppose_regs : Regs → Held → Regs
suppose_regs r held = in_hand r (record { cell = held.cell; taken = held.taken; supposed = true }) r.cells (r.programs + 1) r.alternatives

-- Atom: its first candidate is tried, in the place of the first free alternative; with none, go back.
unfoldable pub atom_kept : Regs → Held → Cell → ℕ → ℕ → Back
atom_kept r held x q i = record {
  made = r.made;
  trail = r.trail;
  cells = r.cells;
  programs = r.programs;
  cell = x.next;
  taken = held.taken + 1;
  supposed = flag held.supposed;
  atom = x.word;
  call = x.program;
  node = q;
  index = i;
}

unfoldable pub atom_reached : Regs → Held → Cell → Option Place → Reached
atom_reached r held x (Some p) = Clause 1 (atom_kept r held x p.program p.clause) r.alternatives
atom_reached r held x None = Onward 1 (back_regs r)

pub record AtomTaken (book ws : List ℕ) (r : Regs) (held : Held) (x : Cell) (y : Reached) : Type 0 where
  pub candidate : Option Place
  pub found : (program : List Force) → IsProgram book ws r.made r.programs x.program program
      → Sought book ws r.made r.programs (field book x.goal 1) (field book x.goal 2) program candidate
  pub is : y ≡ atom_reached r held x candidate

-- Plain rules lead on from the goal of cell x, within the goals and the units that are left.
pub record PlainAhead (book : List ℕ) (held : Held) (x : Cell) (left : ℕ) (p : Followed) : Type 0 where
  pub own : x.program ≡ 0
  pub chain : Chain book x.goal p.goal p.rules
  pub inside : p.goal < records book
  pub goals : held.taken + p.rules ≤ 512
  pub units : 2 * p.rules ≤ left

-- the goal to which they lead, in the next cell; its holder has no variables
unfoldable pub plain_words : Regs → Cell → Followed → List ℕ → List ℕ
plain_words r x p ws = put_cell r.cells (term_word p.goal r.made) x.program x.next ws

unfoldable pub plain_regs : Regs → Held → Followed → Regs
plain_regs r held p = record {
  made = r.made;
  trail = r.trail;
  cells = r.cells + 1;
  programs = r.programs;
  alternatives = r.alternatives;
  branch = Some (record { cell = r.cells; taken = held.taken + p.rules; supposed = held.supposed });
}
