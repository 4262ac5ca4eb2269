-- A plain rule: the only candidate for an atom without arguments, among the question's own clauses; it has no variables, and a body.
use Rattle.std.specs.Prelude.{◌≡◌, Bool, true, false, ◌&&◌, List, [], ◌∷◌, ℕ, zero, suc, ◌+◌, ◌-◌, ◌<◌, eqb, leb, ltb, Option, Some, None}
use Rattle.book.specs.Records.{field, records}
use Rattle.book.specs.Kinds.{kind_at, atom_kind}
use Rattle.book.specs.Decode.{clause_of}
use Rattle.machine.specs.Machine.{Force, candidates}
use Rattle.index.specs.Runs.{next_match}
use Rattle.branch.specs.State.{own_run, rest_of}
use Rattle.following.specs.declared.Followed.{Followed}

-- clause c: the record of its body, if it has no variables, and a body
unfoldable pub plain_clause : List ℕ → ℕ → Option ℕ
plain_clause book c = elim (eqb (field book c 1) 0 && eqb (field book c 5) 1) [ true ↦ Some (field book c 6) | false ↦ None ]

-- the number of the first of the question's own clauses with symbol f and no arguments, and of the next after i; as many as there are clauses, if there is none
abbrev pub first_own : List ℕ → ℕ → ℕ
first_own book f = next_match book f 0 (own_run book).first 0 (own_run book).count

abbrev pub next_own : List ℕ → ℕ → ℕ → ℕ
next_own book f i = next_match book f 0 (own_run book).first (i + 1) ((own_run book).count - (i + 1))

-- there is just one
unfoldable pub only_own : List ℕ → ℕ → Bool
only_own book f = ltb (first_own book f) (own_run book).count && leb (own_run book).count (next_own book f (first_own book f))

-- goal g: the record of the body of the plain rule for it, if there is one
unfoldable pub plain_body : List ℕ → ℕ → Option ℕ
plain_body book g = elim (eqb (field book g 0) 4 && (eqb (field book g 2) 0 && only_own book (field book g 1)))
    [ true ↦ plain_clause book (field book ((own_run book).first + first_own book (field book g 1)) 1) | false ↦ None ]

-- n rules were entered on the way to goal g; so many more may be
unfoldable pub follow_on : List ℕ → ℕ → ℕ → ℕ → Followed
follow_on book g n zero = record { goal = g; rules = n }
follow_on book g n (suc more) = elim (plain_body book g) [ None ↦ record { goal = g; rules = n } | Some b ↦ follow_on book b (suc n) more ]

-- WHAT THAT MEANS for the machine
pub record PlainClause (book : List ℕ) (c b : ℕ) : Type 0 where
  pub bare : field book c 1 ≡ 0
  pub some : field book c 5 ≡ 1
  pub body : field book c 6 ≡ b

-- the question's own clauses, as a program
abbrev pub own_program : List ℕ → List Force
own_program book = rest_of book (own_run book) 0 []

-- goal g is an atom without arguments; its only candidate is clause i of the question's own, and the body of that is b
pub record Plain (book : List ℕ) (g b : ℕ) : Type 0 where
  pub i : ℕ
  pub inside : g < records book
  pub kind : kind_at book g ≡ atom_kind
  pub bare : field book g 2 ≡ 0
  pub below : i < (own_run book).count
  pub only : candidates (field book g 1) 0 (own_program book) ≡ record { text = clause_of book (field book ((own_run book).first + i) 1); outer = 0 } ∷ []
  pub clause : PlainClause book (field book ((own_run book).first + i) 1) b

-- n plain rules lead from goal g to goal h
pub data Chain (book : List ℕ) (g : ℕ) : ℕ → ℕ → Type 0 where
  chain_none : {h n : ℕ} → h ≡ g → n ≡ 0 → Chain book g h n
  chain_more : {h k m n : ℕ} → Chain book g h m → Plain book h k → n ≡ suc m → Chain book g k n
