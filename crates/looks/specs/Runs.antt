-- The list of terms to look at, as runs of links: the run in hand, and those that wait in the workspace, one word each.
use Rattle.std.specs.Prelude.{◌≡◌, List, [], ℕ, zero, suc, ◌+◌, ◌-◌, ◌*◌, ◌/◌, ◌%◌, ◌≤◌, ◌<◌, length, get_or}
use Rattle.book.specs.Records.{field, records}
use Rattle.book.specs.Decode.{texts_from, text_of}
use Rattle.machine.specs.Term.{Term, Terms, instances, spread}
use Rattle.words.specs.Words.{base_of, term_of}
use Rattle.words.specs.Readable.{TermRec}
use Rattle.words.specs.Good.{Below}
use Rattle.words.proofs.StackLaws.{RunOf}
use Rattle.looks.specs.declared.ToLook.{ToLook}
use Rattle.looks.specs.declared.LookStep.{LookStep}
use Rattle.looks.specs.declared.LookStep.TheVariants.{On, Over, Full}

-- the word of a run of m links from `first`, with its variables from number b on, and its numbers
unfoldable pub run_word : ℕ → ℕ → ℕ → ℕ
run_word first m b = 65536 * first + (4096 * m + b)

unfoldable pub first_of : ℕ → ℕ
first_of x = x / 65536

unfoldable pub count_of : ℕ → ℕ
count_of x = x / 4096 % 16

-- the terms of a run
unfoldable pub run_terms : List ℕ → ℕ → ℕ → ℕ → Terms
run_terms book b first m = instances b (texts_from book (text_of book) first m)

-- the terms of d runs that wait, the last one first
unfoldable pub waiting_of : List ℕ → List ℕ → ℕ → List Term
waiting_of book ws zero = []
waiting_of book ws (suc d) =
    spread (run_terms book (base_of (get_or ws (16128 + d) 0)) (first_of (get_or ws (16128 + d) 0)) (count_of (get_or ws (16128 + d) 0))) (waiting_of book ws d)

-- the whole list, and the list without its first term
unfoldable pub list_of : List ℕ → List ℕ → ToLook → List Term
list_of book ws s = spread (run_terms book s.base s.first s.count) (waiting_of book ws s.depth)

unfoldable pub past_of : List ℕ → List ℕ → ToLook → List Term
past_of book ws s = spread (run_terms book s.base (s.first + 1) (s.count - 1)) (waiting_of book ws s.depth)

-- a run that can be read
pub record GoodRun (book : List ℕ) (made b first m : ℕ) : Type 0 where
  pub base : b < 4096
  pub most : m ≤ 8
  pub links : first + m ≤ records book
  pub low : first + m ≤ 4096
  pub run : RunOf book made b first m

pub record GoodWait (book : List ℕ) (made x : ℕ) : Type 0 where
  pub some : 0 < count_of x
  pub good : GoodRun book made (base_of x) (first_of x) (count_of x)

-- the list s lies in ws
pub record Listed (book : List ℕ) (made : ℕ) (ws : List ℕ) (s : ToLook) : Type 0 where
  pub hand : GoodRun book made s.base s.first s.count
  pub waits : (k : ℕ) → k < s.depth → GoodWait book made (get_or ws (16128 + k) 0)
  pub total : s.waiting ≡ length (waiting_of book ws s.depth)
  pub most : s.waiting + s.count ≤ 256
  pub some : 0 < s.count

-- what a step leaves of the list is l
pub data Leaves (book : List ℕ) (made : ℕ) (ws : List ℕ) (l : List Term) : LookStep → Type 0 where
  some_left : {x : ToLook} → Listed book made ws x → list_of book ws x ≡ l → Leaves book made ws l (On x)
  none_left : l ≡ [] → Leaves book made ws l Over

-- the text of record r with its variables from number b on is a term of the branch
pub record TermAt (book : List ℕ) (made r b : ℕ) : Type 0 where
  pub term : TermRec book r
  pub base : b < 4096
  pub below : Below made (term_of book r b)

-- record r has arguments: the targets of m links from `first`
pub record HasRun (book : List ℕ) (r first m : ℕ) : Type 0 where
  pub start : first ≡ field book r 3
  pub many : m ≡ field book r 2
  pub some : 0 < m

-- the first term's arguments, those of record r at base b, in its place
pub data LookedInto (book : List ℕ) (made : ℕ) (ws ws' : List ℕ) (s : ToLook) (r b : ℕ) : LookStep → Type 0 where
  into : {o : LookStep} → Leaves book made ws' (spread (run_terms book b (field book r 3) (field book r 2)) (past_of book ws s)) o → LookedInto book made ws ws' s r b o
  into_full : 256 < field book r 2 + length (past_of book ws s) → LookedInto book made ws ws' s r b Full
