-- The clauses of a run by their heads.
use Rattle.std.specs.Prelude.{Bool, true, false, ◌&&◌, List, ℕ, zero, suc, ◌+◌, ◌<◌, eqb, ltb, Option, Some, None}
use Rattle.book.specs.Records.{field, records}

-- the head of clause record c has symbol f and m arguments
unfoldable pub head_matches : List ℕ → ℕ → ℕ → ℕ → Bool
head_matches book f m c = eqb f (field book (field book c 4) 1) && eqb m (field book (field book c 4) 2)

-- the first of the d numbers from k on that p says yes to, or k + d
unfoldable pub next_such : (ℕ → Bool) → ℕ → ℕ → ℕ
next_such p k zero = k
next_such p k (suc d) = elim (p k) [ true ↦ k | false ↦ next_such p (suc k) d ]

-- the clause at link i of the run matches
abbrev pub matches_at : List ℕ → ℕ → ℕ → ℕ → ℕ → Bool
matches_at book f m first i = head_matches book f m (field book (first + i) 1)

-- the first of the d links from number k on whose clause matches, or k + d
unfoldable pub next_match : List ℕ → ℕ → ℕ → ℕ → ℕ → ℕ → ℕ
next_match book f m first k d = next_such (matches_at book f m first) k d

-- what is found among n: number j, if it is one of them
unfoldable pub found_below : ℕ → ℕ → Option ℕ
found_below n j = elim (ltb j n) [ true ↦ Some j | false ↦ None ]

-- the links of a run of clauses, and the clauses' heads, are in the book
abbrev pub ClauseRun : List ℕ → ℕ → ℕ → Type 0
ClauseRun book first n = (k : ℕ) → k < n → (first + k < records book) × (field book (first + k) 1 < records book) × (field book (field book (first + k) 1) 4 < records book)
