-- Document 01, "Going back": the newest alternative, with bindings, list and programs as they were.
-- What is there once the trail was undone, by the numbers x that alternative k held.
use Rattle.std.specs.Prelude.{◌≡◌, Bool, List, ◌∷◌, ℕ, ◌+◌, ◌*◌, ◌≤◌, ◌<◌}
use Rattle.book.specs.Records.{field}
use Rattle.book.specs.Kinds.{kind_at, atom_kind}
use Rattle.book.specs.Decode.{arguments_of}
use Rattle.machine.specs.Machine.{Thread, solving, entering, Branch, Force, Atom, candidates}
use Rattle.words.specs.Words.{term_word}
use Rattle.branch.specs.declared.Back.{Back}
use Rattle.branch.specs.State.{Tops, GoalHere, IsProgram, IsClause, IsBranch, Sound, Waiting, flag}

-- the tops that the numbers say, with n alternatives
abbrev pub tops_at : Back → ℕ → Tops
tops_at x n = record { made = x.made; trail = x.trail; cells = x.cells; programs = x.programs; alternatives = n }

-- the branch b as it was, and the alternatives older than k
pub record Again (book ws : List ℕ) (k : ℕ) (x : Back) (b : Branch) (ts : List Thread) : Type 0 where
  pub supposed : Bool
  pub flagged : x.supposed ≡ flag supposed
  pub sound : Sound book ws (tops_at x k)
  pub there : IsBranch book ws (tops_at x k) x.cell x.taken supposed b
  pub waiting : Waiting book ws (tops_at x k) ts
  pub few : k < x.taken

-- atom a at base e was called with the program; clause f is its next candidate, and the others are among those after it
pub record Candidates (book ws : List ℕ) (x : Back) (a e : ℕ) (program : List Force) (f : Force) (after : List Force) : Type 0 where
  pub atom : x.atom ≡ term_word a e
  pub base : e < 4096
  pub kind : kind_at book a ≡ atom_kind
  pub here : GoalHere book x.made a e
  pub called : x.call < 1024
  pub program_is : IsProgram book ws x.made x.programs x.call program
  pub clause : IsClause book ws x.made x.programs x.node x.index f after
  pub first : candidates (field book a 1) (field book a 2) (f ∷ after) ≡ f ∷ candidates (field book a 1) (field book a 2) after
  pub room : x.cells < 2 * x.taken + 2
  pub most : x.taken ≤ 512

-- there is a next candidate
pub record Leads (book ws : List ℕ) (x : Back) : Type 0 where
  pub f : Force
  pub after : List Force
  pub clause : IsClause book ws x.made x.programs x.node x.index f after
  pub few : x.programs ≤ 514

abbrev pub atom_of : List ℕ → ℕ → ℕ → List Force → Atom
atom_of book a e program = record { symbol = field book a 1; arguments = arguments_of book a; base = e; program = program }

-- the thread of an alternative with an atom, and those that wait behind it
pub record ToClause (book ws : List ℕ) (k : ℕ) (x : Back) (threads : List Thread) : Type 0 where
  pub b : Branch
  pub ts : List Thread
  pub a : ℕ
  pub e : ℕ
  pub program : List Force
  pub f : Force
  pub after : List Force
  pub again : Again book ws k x b ts
  pub with : Candidates book ws x a e program f after
  pub is : threads ≡ entering b (atom_of book a e program) f (candidates (field book a 1) (field book a 2) after) ∷ ts

-- THE WAY BACK: to the right side of an or, or to a clause of an atom
pub data Returned (book ws : List ℕ) (k : ℕ) (x : Back) : List Thread → Type 0 where
  to_goal : {b : Branch} {ts : List Thread} → x.atom ≡ 0 → Again book ws k x b ts → Returned book ws k x (solving b ∷ ts)
  to_clause : {threads : List Thread} → ToClause book ws k x threads → Returned book ws k x threads
