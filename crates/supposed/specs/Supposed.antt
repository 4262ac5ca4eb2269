-- An index of every supposed run, made once for a book. Each run of n clauses, at most 64, has n buckets.
-- A number below 256 is noted for each record, four to a word in the 1,024 words from 12304 on: for link b of a supposed run the first clause in bucket b,
-- for a supposed clause the next clause of its run in its bucket; n is none. In an accepted book each link is in one run, and each clause at one link (test 6).
-- And word 4096 + b, of the index of the question's own run, has eight marks. Suppose goals fall into eight classes by their record number: goal s is of class s % 8.
-- Bit 11 + j of the word is the mark of class j: some suppose goal of that class supposes a clause with its head in bucket b. A suppose goal whose class is not marked has no candidate there.
use Rattle.std.specs.Prelude.{◌≡◌, Bool, true, false, List, ℕ, zero, suc, ◌+◌, ◌-◌, ◌*◌, ◌/◌, ◌%◌, ◌^◌, ◌<◌, eqb, ltb, get_or, set}
use Rattle.book.specs.Records.{field, records}
use Rattle.book.specs.Kinds.{kind_at, suppose_kind}
use Rattle.index.specs.Index.{bucket_of, next_in, head_bucket}

-- the bucket of a head with symbol f and m arguments in a run of n
abbrev pub small_bucket : ℕ → ℕ → ℕ → ℕ
small_bucket n f m = (39 * f + 8 * m) % 64 * n / 64

-- NOTES AND MARKS

-- the number noted for record r
unfoldable pub note_of : List ℕ → ℕ → ℕ
note_of ws r = get_or ws (12304 + r % 1024) 0 / 2 ^ (8 * (r / 1024)) % 256

-- number v is noted for record r
unfoldable pub note_words : List ℕ → ℕ → ℕ → List ℕ
note_words ws r v = set ws (12304 + r % 1024) (get_or ws (12304 + r % 1024) 0 - 2 ^ (8 * (r / 1024)) * note_of ws r + 2 ^ (8 * (r / 1024)) * v)

-- bucket b of the question's own run is marked for some class
unfoldable pub marked : List ℕ → ℕ → Bool
marked ws b = ltb 0 (get_or ws (4096 + b) 0 / 2048 % 256)

-- and for that of suppose goal s
unfoldable pub marked_by : List ℕ → ℕ → ℕ → Bool
marked_by ws b s = ltb 0 (get_or ws (4096 + b) 0 / 2 ^ (11 + s % 8) % 2)

-- it is marked for the class of suppose goal s
unfoldable pub mark_words : List ℕ → ℕ → ℕ → List ℕ
mark_words ws b s = elim (marked_by ws b s) [ true ↦ ws | false ↦ set ws (4096 + b) (get_or ws (4096 + b) 0 + 2 ^ (11 + s % 8)) ]

-- WHAT IS WRITTEN

-- the first k buckets of a run of n are empty
unfoldable pub empty_run : ℕ → ℕ → ℕ → List ℕ → List ℕ
empty_run first n zero ws = ws
empty_run first n (suc k) ws = note_words (empty_run first n k ws) (first + k) n

-- clause i of suppose goal s's run is the first of its bucket, before those that are in it
unfoldable pub enter_clause : List ℕ → ℕ → ℕ → ℕ → ℕ → List ℕ → List ℕ
enter_clause book s first n i ws =
    mark_words (note_words (note_words ws (field book (first + i) 1) (note_of ws (first + bucket_of (small_bucket n) book first i))) (first + bucket_of (small_bucket n) book first i) i) (bucket_of head_bucket book first i) s

-- the last d clauses of suppose goal s's run are entered
unfoldable pub run_words : List ℕ → ℕ → ℕ → ℕ → ℕ → List ℕ → List ℕ
run_words book s first n zero ws = empty_run first n n ws
run_words book s first n (suc d) ws = enter_clause book s first n (n - suc d) (run_words book s first n d ws)

-- the runs of the suppose goals among the first k records are indexed
unfoldable pub supposed_words : List ℕ → ℕ → List ℕ → List ℕ
supposed_words book zero ws = ws
supposed_words book (suc k) ws =
    elim (eqb (field book k 0) 7) [ true ↦ run_words book k (field book k 1) (field book k 2) (field book k 2) (supposed_words book k ws) | false ↦ supposed_words book k ws ]

-- WHAT IT SAYS

-- a run is indexed
pub record RunIndexed (book : List ℕ) (first n : ℕ) (ws : List ℕ) : Type 0 where
  pub firsts : (b : ℕ) → b < n → note_of ws (first + b) ≡ next_in (small_bucket n) book first b 0 n
  pub nexts : (i : ℕ) → i < n → note_of ws (field book (first + i) 1) ≡ next_in (small_bucket n) book first (bucket_of (small_bucket n) book first i) (i + 1) (n - (i + 1))

-- the runs of the suppose goals among the first k records are indexed, and the buckets of their clauses marked for their classes
pub record SupposedBelow (book : List ℕ) (k : ℕ) (ws : List ℕ) : Type 0 where
  pub runs : (s : ℕ) → s < k → kind_at book s ≡ suppose_kind → RunIndexed book (field book s 1) (field book s 2) ws
  pub marks : (s i : ℕ) → s < k → kind_at book s ≡ suppose_kind → i < field book s 2 → marked_by ws (bucket_of head_bucket book (field book s 1) i) s ≡ true

abbrev pub SupposedIndexed : List ℕ → List ℕ → Type 0
SupposedIndexed book ws = SupposedBelow book (records book) ws
