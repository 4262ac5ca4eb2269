-- The list of pairs, as pairs of runs of links: the two runs in hand, and those that wait in the workspace, two words for each two runs.
use Rattle.std.specs.Prelude.{◌≡◌, List, [], ℕ, zero, suc, ◌+◌, ◌-◌, ◌*◌, ◌≤◌, ◌<◌, length, get_or}
use Rattle.book.specs.Records.{field}
use Rattle.machine.specs.Term.{Pair, pair_up}
use Rattle.words.specs.Words.{base_of}
use Rattle.words.specs.Frame.{Keeps}
use Rattle.unifier.specs.declared.ToPair.{ToPair}
use Rattle.unifier.specs.declared.PairStep.{PairStep}
use Rattle.unifier.specs.declared.PairStep.TheVariants.{Into, Past, Apart, TooMany}
use Rattle.looks.specs.Runs.{first_of, count_of, run_terms, GoodRun}

-- the pairs of two runs of m links, at the front of a list
unfoldable pub pair_run : List ℕ → ℕ → ℕ → ℕ → ℕ → ℕ → List Pair → List Pair
pair_run book b first c other m l = pair_up (run_terms book b first m) (run_terms book c other m) l

-- the pairs of two runs that wait as words x and y, which have the same count
unfoldable pub pair_words : List ℕ → ℕ → ℕ → List Pair → List Pair
pair_words book x y l = pair_run book (base_of x) (first_of x) (base_of y) (first_of y) (count_of x) l

-- the pairs of d times two runs that wait, the last ones first
unfoldable pub waiting_pairs : List ℕ → List ℕ → ℕ → List Pair
waiting_pairs book ws zero = []
waiting_pairs book ws (suc d) = pair_words book (get_or ws (15616 + 2 * d) 0) (get_or ws (15616 + 2 * d + 1) 0) (waiting_pairs book ws d)

-- the whole list, and the list without its first pair
unfoldable pub pair_list_of : List ℕ → List ℕ → ToPair → List Pair
pair_list_of book ws s = pair_run book s.base s.first s.beside s.other s.count (waiting_pairs book ws s.depth)

unfoldable pub past_pairs : List ℕ → List ℕ → ToPair → List Pair
past_pairs book ws s = pair_run book s.base (s.first + 1) s.beside (s.other + 1) (s.count - 1) (waiting_pairs book ws s.depth)

-- two runs that wait
pub record GoodTwo (book : List ℕ) (made x y : ℕ) : Type 0 where
  pub some : 0 < count_of x
  pub left : GoodRun book made (base_of x) (first_of x) (count_of x)
  pub right : GoodRun book made (base_of y) (first_of y) (count_of x)

-- the list s lies in ws
pub record Paired (book : List ℕ) (made : ℕ) (ws : List ℕ) (s : ToPair) : Type 0 where
  pub left : GoodRun book made s.base s.first s.count
  pub right : GoodRun book made s.beside s.other s.count
  pub waits : (k : ℕ) → k < s.depth → GoodTwo book made (get_or ws (15616 + 2 * k) 0) (get_or ws (15616 + 2 * k + 1) 0)
  pub total : s.waiting ≡ length (waiting_pairs book ws s.depth)
  pub most : s.waiting + s.count ≤ 256
  pub ends : s.count ≡ 0 → s.depth ≡ 0

pub record PairPast (book : List ℕ) (made : ℕ) (ws : List ℕ) (s r : ToPair) : Type 0 where
  pub listed : Paired book made ws r
  pub same : pair_list_of book ws r ≡ past_pairs book ws s

-- the first pair is the terms of record r at base b and of record q at base c: their argument pairs in its place
pub data PairedInto (book : List ℕ) (made : ℕ) (ws ws' : List ℕ) (s : ToPair) (r b q c trail : ℕ) : PairStep → Type 0 where
  paired : {x : ToPair} → field book r 1 ≡ field book q 1 → field book r 2 ≡ field book q 2 → Keeps 0 15616 ws ws' → Paired book made ws' x
      → pair_list_of book ws' x ≡ pair_run book b (field book r 3) c (field book q 3) (field book r 2) (past_pairs book ws s)
      → PairedInto book made ws ws' s r b q c trail (Into x)
  alike : ws' ≡ ws → field book r 1 ≡ field book q 1 → field book r 2 ≡ field book q 2 → field book r 2 ≡ 0 → PairedInto book made ws ws' s r b q c trail (Past trail)
  unpaired : ws' ≡ ws → (field book r 1 ≡ field book q 1 → field book r 2 ≡ field book q 2 → ⊥) → PairedInto book made ws ws' s r b q c trail Apart
  overfull : ws' ≡ ws → field book r 1 ≡ field book q 1 → field book r 2 ≡ field book q 2 → 256 < field book r 2 + length (past_pairs book ws s)
      → PairedInto book made ws ws' s r b q c trail TooMany
