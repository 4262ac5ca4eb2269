-- THE MEMO: what the search along the programs that were put has found before, so that it is not made again.
-- Program p's third word, 8200 + 3 p + 2, is its mark: the units that were left when it was put. Putting a program takes a unit, so no two programs of a run have the same mark.
-- Entry e, below 1024: two words from 13568 + 2 e: the mark of a program; and in one word what the place leaves open of a head, and the word found, and 1.
-- Entries below 512 are of first searches, the others of searches after a candidate.
-- Words 13568 to 15615 are the memo's while the run searches. When an answer is written, its variables are numbered there, one word for each that is made: these words are cleared before and after.
use Rattle.std.specs.Prelude.{◌≡◌, ◌⊎◌, List, ℕ, ◌+◌, ◌-◌, ◌*◌, ◌/◌, ◌%◌, ◌≤◌, ◌<◌, get_or, set}
use Rattle.machine.specs.Machine.{Force}
use Rattle.words.specs.Frame.{Keeps, clear_words}
use Rattle.branch.specs.State.{IsRest}
use Rattle.book.proofs.Accepted.{Formed}
use Rattle.seeking.specs.declared.Half.{Half}
use Rattle.seeking.specs.declared.Half.TheVariants.{First, After}
use Rattle.seeking.specs.Seeking.{AllIndexed, Standing, SoughtPut}

-- the mark of program p
abbrev pub mark_of : List ℕ → ℕ → ℕ
mark_of ws p = get_or ws (8200 + 3 * p + 2) 0

-- which of the 512 places of a half it is, for a program with this mark and a head with symbol f
abbrev pub place_of : ℕ → ℕ → ℕ
place_of mark f = (2 * (mark % 512) + f) % 512

-- the halves by number: half 0 is of first searches
abbrev pub half_number : Half → ℕ
half_number First = 0
half_number After = 1

-- where the memo has the answer
unfoldable pub entry_at : ℕ → ℕ → ℕ → ℕ
entry_at mark half f = 13568 + 1024 * half + 2 * place_of mark f

-- what the place leaves open of symbol f and m arguments, of which there are at most 8
unfoldable pub head_rest : ℕ → ℕ → ℕ
head_rest f m = 16 * (f / 512) + m

-- word w is what is found from program p on, for symbol f and m arguments
abbrev pub Finds : List ℕ → List ℕ → ℕ → ℕ → ℕ → ℕ → Type 0
Finds book ws p f m w = (made top : ℕ) (rest : List Force) → IsRest book ws made top p 0 rest → SoughtPut book ws made top f m rest w

-- what the memo's entry e says of program p, if it has the program's mark
abbrev pub EntryRight : List ℕ → List ℕ → ℕ → ℕ → Type 0
EntryRight book ws e p = (f m : ℕ) → m ≤ 8 → e % 512 ≡ place_of (mark_of ws p) f → get_or ws (13568 + 2 * e + 1) 0 / 131072 ≡ head_rest f m → 0 < get_or ws (13568 + 2 * e + 1) 0 % 131072
    → Finds book ws p f m (get_or ws (13568 + 2 * e + 1) 0 % 131072 - 1)

-- the memo is right for the programs below `programs`, and with `left` units left the next program's mark is a new one
pub record Memo (book ws : List ℕ) (programs left : ℕ) : Type 0 where
  pub marks : (p : ℕ) → 0 < p → p < programs → left < mark_of ws p
  pub falling : (p q : ℕ) → 0 < p → p < q → q < programs → mark_of ws q < mark_of ws p
  pub older : (e : ℕ) → e < 1024 → (get_or ws (13568 + 2 * e) 0 ≡ 0) ⊎ (left < get_or ws (13568 + 2 * e) 0)
  pub right : (e p : ℕ) → e < 1024 → 0 < p → p < programs → get_or ws (13568 + 2 * e) 0 ≡ mark_of ws p → EntryRight book ws e p

-- what remembering word w as the answer writes
unfoldable pub memo_words : List ℕ → ℕ → ℕ → ℕ → ℕ → ℕ → List ℕ
memo_words ws half p f m w = set (set ws (entry_at (mark_of ws p) half f) (mark_of ws p)) (entry_at (mark_of ws p) half f + 1) (131072 * head_rest f m + w + 1)

-- nothing is remembered any more in the first n words, and in the entry that they end in
abbrev pub forget_words : ℕ → List ℕ → List ℕ
forget_words n ws = clear_words 13568 (n + n % 2) ws

-- nothing but the memo differs
pub record MemoOnly (ws ws' : List ℕ) : Type 0 where
  pub below : Keeps 0 13568 ws ws'
  pub above : Keeps 15616 16384 ws ws'

-- the memo of the first workspace is right, and so is that of the second
abbrev pub MemoStays : List ℕ → ℕ → List ℕ → List ℕ → Type 0
MemoStays book programs ws ws' = MemoOnly ws ws' × ((left : ℕ) → Memo book ws programs left → Memo book ws' programs left)

-- what a search from program p on, for symbol f and m arguments, stands on
pub record Searchable (book ws : List ℕ) (made top p f m : ℕ) : Type 0 where
  pub formed : Formed book
  pub indexed : AllIndexed book ws
  pub standing : Standing book ws made top p 0
  pub few : top ≤ 514
  pub count : m ≤ 8
  pub memo : (left : ℕ) × Memo book ws top left
