-- An index of a run of clauses by head symbol and argument count, in buckets. For a supposed run (`supposed`): for each bucket its first clause, and for each clause the next one of its bucket.
-- Here, that of the question's own run of at most 1,024 clauses, in 1,024 buckets: each bucket has a list of its different heads, each head standing there with its last clause.
-- Word 4096 + b is 1048576 * record + number: the first clause in bucket b's list, and its record; the length n of the run alone, if there is none.
-- The eight bits from bit 11 on are the marks of the supposed clauses (`supposed`).
-- Word 5120 + i is 4194304 * link + 2048 * start + same: `same` is the next clause with clause i's very head. If it is n, clause i is the last with its head and stands in its bucket's list:
-- `start` is the first clause with its head, and `link` the next clause in the list, i itself if there is none. If it is not n, the word is `same` alone.
use Rattle.std.specs.Prelude.{◌≡◌, Bool, true, false, ◌&&◌, List, ℕ, ◌+◌, ◌-◌, ◌*◌, ◌/◌, ◌%◌, ◌≤◌, ◌<◌, eqb, ltb, get_or}
use Rattle.book.specs.Records.{field}
use Rattle.words.specs.Frame.{Keeps}
use Rattle.index.specs.Runs.{head_matches, next_such, next_match}

-- BUCKETS, for any way h of giving a bucket to a symbol and an argument count

-- the bucket of clause i of the run from link `first` on
unfoldable pub bucket_of : (ℕ → ℕ → ℕ) → List ℕ → ℕ → ℕ → ℕ
bucket_of h book first i = h (field book (field book (field book (first + i) 1) 4) 1) (field book (field book (field book (first + i) 1) 4) 2)

-- clause i is in bucket b
abbrev pub is_in : (ℕ → ℕ → ℕ) → List ℕ → ℕ → ℕ → ℕ → Bool
is_in h book first b i = eqb b (bucket_of h book first i)

-- the first of the d clauses from number k on that is in bucket b, or k + d
unfoldable pub next_in : (ℕ → ℕ → ℕ) → List ℕ → ℕ → ℕ → ℕ → ℕ → ℕ
next_in h book first b k d = next_such (is_in h book first b) k d

-- clause r, if there is one, is in bucket b
pub record InBucket (h : ℕ → ℕ → ℕ) (book : List ℕ) (first n b r : ℕ) : Type 0 where
  pub within : r ≤ n
  pub bucket : r < n → bucket_of h book first r ≡ b

-- THE QUESTION'S OWN RUN

-- the bucket of a head with symbol f and m arguments
abbrev pub head_bucket : ℕ → ℕ → ℕ
head_bucket f m = (f + 64 * m) % 1024

-- the word of clause i of a run of n: its number, and its record; n alone, if there is no such clause
unfoldable pub entry_of : List ℕ → ℕ → ℕ → ℕ → ℕ
entry_of book first n i = elim (ltb i n) [ true ↦ 1048576 * field book (first + i) 1 + i | false ↦ n ]

-- the head of clause i: its symbol, and how many arguments it has
unfoldable pub symbol_of : List ℕ → ℕ → ℕ → ℕ
symbol_of book first i = field book (field book (field book (first + i) 1) 4) 1

unfoldable pub count_of : List ℕ → ℕ → ℕ → ℕ
count_of book first i = field book (field book (field book (first + i) 1) 4) 2

-- the first clause from number i on with clause j's head, or n
unfoldable pub start_of : List ℕ → ℕ → ℕ → ℕ → ℕ → ℕ
start_of book first n i j = next_match book (symbol_of book first j) (count_of book first j) first i (n - i)

-- the next clause with clause i's head, or n
abbrev pub next_same : List ℕ → ℕ → ℕ → ℕ → ℕ
next_same book first n i = start_of book first n (i + 1) i

-- clause i is the last with its head
unfoldable pub is_last : List ℕ → ℕ → ℕ → ℕ → Bool
is_last book first n i = eqb (next_same book first n i) n

-- clause i stands in bucket b's list
unfoldable pub in_list : List ℕ → ℕ → ℕ → ℕ → ℕ → Bool
in_list book first n b i = eqb b (bucket_of head_bucket book first i) && is_last book first n i

-- the first of the d clauses from number k on that stands in bucket b's list, or k + d
abbrev pub next_last : List ℕ → ℕ → ℕ → ℕ → ℕ → ℕ → ℕ
next_last book first n b k d = next_such (in_list book first n b) k d

-- clause i is the last with symbol f and m arguments
unfoldable pub last_head : List ℕ → ℕ → ℕ → ℕ → ℕ → ℕ → Bool
last_head book f m first n i = head_matches book f m (field book (first + i) 1) && is_last book first n i

-- the last clause with symbol f and m arguments, if it is one of those from number k on; or n
unfoldable pub last_match : List ℕ → ℕ → ℕ → ℕ → ℕ → ℕ → ℕ
last_match book f m first n k = next_such (last_head book f m first n) k (n - k)

-- what stands for the next clause l of a list: clause i itself, if there is none
unfoldable pub link_or : ℕ → ℕ → ℕ → ℕ
link_or n i l = elim (ltb l n) [ true ↦ l | false ↦ i ]

-- the word of clause j, when the clauses from number i on are indexed
unfoldable pub word_of : List ℕ → ℕ → ℕ → ℕ → ℕ → ℕ
word_of book first n i j =
    elim (is_last book first n j) [
      | true ↦ 4194304 * link_or n j (next_last book first n (bucket_of head_bucket book first j) (j + 1) (n - (j + 1))) + 2048 * start_of book first n i j + n
      | false ↦ next_same book first n j
    ]

-- the words say so of the clauses from number i on, whatever is marked
pub record Listed (book : List ℕ) (first n i : ℕ) (ws : List ℕ) : Type 0 where
  pub firsts : (b : ℕ) → b < 1024 → get_or ws (4096 + b) 0 % 2048 ≡ next_last book first n b i (n - i)
  pub clauses : (b : ℕ) → b < 1024 → next_last book first n b i (n - i) < n → get_or ws (4096 + b) 0 / 1048576 ≡ field book (first + next_last book first n b i (n - i)) 1
  pub nexts : (j : ℕ) → i ≤ j → j < n → get_or ws (5120 + j) 0 ≡ word_of book first n i j

-- and of all clauses
abbrev pub Indexed : List ℕ → ℕ → ℕ → List ℕ → Type 0
Indexed book first n ws = Listed book first n 0 ws

-- what the code of the index leaves: the buckets below b empty, and nothing else changed
pub record EmptyFrom (n b : ℕ) (ws ws' : List ℕ) : Type 0 where
  pub firsts : (x : ℕ) → x < b → get_or ws' (4096 + x) 0 ≡ n
  pub below : Keeps 0 4096 ws ws'
  pub above : Keeps (4096 + b) 16384 ws ws'

-- the clauses from number i on indexed, nothing marked, and nothing else changed; from 0 on, that is `Indexed`
pub record IndexedFrom (book : List ℕ) (first n i : ℕ) (ws ws' : List ℕ) : Type 0 where
  pub firsts : (b : ℕ) → b < 1024 → get_or ws' (4096 + b) 0 ≡ entry_of book first n (next_last book first n b i (n - i))
  pub nexts : (j : ℕ) → i ≤ j → j < n → get_or ws' (5120 + j) 0 ≡ word_of book first n i j
  pub below : Keeps 0 4096 ws ws'
  pub between : Keeps 5120 (5120 + i) ws ws'
  pub above : Keeps (5120 + n) 16384 ws ws'
