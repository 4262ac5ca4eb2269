-- Candidates along the programs.
use Rattle.std.specs.Prelude.{◌≡◌, true, List, ◌∷◌, [], ℕ, ◌+◌, ◌*◌, ◌/◌, ◌<◌, get_or, ◌-◌, Option, Some, None}
use Rattle.book.specs.Records.{field}
use Rattle.index.specs.Runs.{head_matches, next_match, found_below}
use Rattle.index.specs.Index.{Indexed}
use Rattle.supposed.specs.Supposed.{SupposedIndexed}
use Rattle.machine.specs.Machine.{Force, candidates}
use Rattle.branch.specs.State.{own_run, IsRest, IsClause}
use Rattle.seeking.specs.declared.Place.{Place}

-- the indexes of the question's own run and of every supposed run are in the workspace
pub record AllIndexed (book ws : List ℕ) : Type 0 where
  pub own : Indexed book (own_run book).first (own_run book).count ws
  pub supposed : SupposedIndexed book ws

-- a clause of the question's own run, which is program 0
abbrev pub own_place : Option ℕ → Option Place
own_place None = None
own_place (Some i) = Some (record { program = 0; clause = i })

-- the first candidate among the clauses of the question's own run from number k on
unfoldable pub own_candidate : List ℕ → ℕ → ℕ → ℕ → Option Place
own_candidate book f m k = own_place (found_below (own_run book).count (next_match book f m (own_run book).first k ((own_run book).count - k)))

-- clause i of the question's own run has symbol f and m arguments at its head
pub record OwnMatches (book : List ℕ) (f m i : ℕ) : Type 0 where
  pub below : i < (own_run book).count
  pub matches : head_matches book f m (field book ((own_run book).first + i) 1) ≡ true

-- clause i of program p, which was put, has symbol f and m arguments at its head
abbrev pub PutMatches : List ℕ → List ℕ → ℕ → ℕ → ℕ → ℕ → Type 0
PutMatches book ws p i f m = head_matches book f m (field book (field book (get_or ws (8200 + 3 * p) 0 / 4096 - 1) 1 + i) 1) ≡ true

-- there is a place (p, i) of a program
abbrev pub Standing : List ℕ → List ℕ → ℕ → ℕ → ℕ → ℕ → Type 0
Standing book ws made top p i = (rest : List Force) × IsRest book ws made top p i rest

-- clause i of program p is a candidate for symbol f and m arguments
pub record IsCandidate (book ws : List ℕ) (made top p i f m : ℕ) : Type 0 where
  pub c : Force
  pub after : List Force
  pub clause : IsClause book ws made top p i c after
  pub first : candidates f m (c ∷ after) ≡ c ∷ candidates f m after

-- what the search for a candidate from some place of a program finds: a place, and the rest after it; or nothing
pub data Sought (book ws : List ℕ) (made top f m : ℕ) (rest : List Force) : Option Place → Type 0 where
  sought : {x : Place} {c : Force} {after : List Force} → IsClause book ws made top x.program x.clause c after
      → candidates f m (c ∷ after) ≡ c ∷ candidates f m after → candidates f m rest ≡ c ∷ candidates f m after → Sought book ws made top f m rest (Some x)
  no_more : candidates f m rest ≡ [] → Sought book ws made top f m rest None

-- the same, as a word, in the programs that were put; or it is nowhere but in the question's own run
pub data SoughtPut (book ws : List ℕ) (made top f m : ℕ) (rest : List Force) : ℕ → Type 0 where
  put_here : {x : Place} {w : ℕ} → w ≡ 128 * x.program + x.clause + 1 → x.clause < 128 → Sought book ws made top f m rest (Some x) → SoughtPut book ws made top f m rest w
  put_nowhere : {w : ℕ} {own : List Force} → w ≡ 0 → IsRest book ws made top 0 0 own → candidates f m own ≡ candidates f m rest → SoughtPut book ws made top f m rest w
