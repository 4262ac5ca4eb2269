-- Pairs of runs of links as a list of pairs.
use mathlib.Core.Path.{◌≡◌, refl, sym, ◌∙◌}
use mathlib.Core.Logic.{inr}
use mathlib.Core.List.{List, [], ◌∷◌}
use Prim.Native.Nat.{ℕ, zero, suc, ◌+◌, ◌-◌, ◌*◌, ◌≤◌, ◌<◌}
use native.Mathlib.Omega.{arith}
use native.Mathlib.Decide.{dec_lt}
use lib.ListN.{length, get_or, set, length-set}
use lib.Seq.{get_or-set_same, get_or-set_other}
use Rattle.book.specs.Records.{field}
use Rattle.book.specs.Decode.{texts_from, text_of}
use Rattle.machine.specs.Term.{Pair, pair_up, instances, fills}
use Rattle.words.specs.Words.{base_of, term_of}
use Rattle.words.specs.Frame.{Keeps}
use Rattle.words.proofs.StackLaws.{run_count, pair_count, keeps_trans, keeps_set}
use Rattle.unifier.specs.declared.ToPair.{ToPair}
use Rattle.looks.specs.Runs.{first_of, count_of, run_terms, GoodRun}
use Rattle.unifier.specs.PairRuns.{pair_run, pair_words, waiting_pairs, pair_list_of, past_pairs, GoodTwo, Paired}

-- TWO RUNS
pub both_next : (book : List ℕ) (b first c other m : ℕ) (l : List Pair) → 0 < m
    → pair_run book b first c other m l ≡ record { left = term_of book (field book first 1) b; right = term_of book (field book other 1) c } ∷ pair_run book b (first + 1) c (other + 1) (m - 1) l
unfolding pair_run run_terms texts_from fills pair_up term_of
both_next book b first c other m l h =
    let e : m ≡ suc (m - 1) = omega arith in
    let d : suc (m - 1) - 1 ≡ m - 1 = omega arith in
    let f : first + 1 ≡ suc first = omega arith in
    let g : other + 1 ≡ suc other = omega arith in
    rw (f, g, e) (rw d refl)

pub both_none : (book : List ℕ) (b first c other m : ℕ) (l : List Pair) → m ≡ 0 → pair_run book b first c other m l ≡ l
unfolding pair_run run_terms texts_from fills pair_up
both_none book b first c other m l e = rw e refl

pub both_length : (book : List ℕ) (b first c other m : ℕ) (l : List Pair) → length (pair_run book b first c other m l) ≡ m + length l
unfolding pair_run run_terms
both_length book b first c other m l =
    pair_count (instances b (texts_from book (text_of book) first m)) (instances c (texts_from book (text_of book) other m)) l (run_count book b first m ∙ sym (run_count book c other m))
    ∙ rw (run_count book b first m) refl

-- RUNS THAT WAIT
pub twos_same : (book : List ℕ) (d : ℕ) (ws ws' : List ℕ) → ((k : ℕ) → k < 2 * d → get_or ws' (15616 + k) 0 ≡ get_or ws (15616 + k) 0) → waiting_pairs book ws' d ≡ waiting_pairs book ws d
unfolding waiting_pairs
twos_same book zero ws ws' h = refl
twos_same book (suc d) ws ws' h =
    let z : 15616 + 2 * d + 1 ≡ 15616 + (2 * d + 1) = omega arith in
    rw (z, h (2 * d) (omega arith), h (2 * d + 1) (omega arith), twos_same book d ws ws' (λ k l. h k (omega arith))) refl

pub words_length : (book : List ℕ) (x y : ℕ) (l : List Pair) → length (pair_words book x y l) ≡ count_of x + length l
unfolding pair_words
words_length book x y l = both_length book (base_of x) (first_of x) (base_of y) (first_of y) (count_of x) l

pub twos_most : (book : List ℕ) (made : ℕ) (ws : List ℕ) (d : ℕ) → ((k : ℕ) → k < d → GoodTwo book made (get_or ws (15616 + 2 * k) 0) (get_or ws (15616 + 2 * k + 1) 0)) → d ≤ length (waiting_pairs book ws d)
unfolding waiting_pairs
twos_most book made ws zero g = omega arith
twos_most book made ws (suc d) g =
    let i = twos_most book made ws d (λ k l. g k (omega arith)) in
    omega (arith, words_length book (get_or ws (15616 + 2 * d) 0) (get_or ws (15616 + 2 * d + 1) 0) (waiting_pairs book ws d), (g d (omega arith)).some)

pub twos_last : (book ws : List ℕ) (d : ℕ) → 0 < d
    → waiting_pairs book ws d ≡ pair_words book (get_or ws (15616 + 2 * (d - 1)) 0) (get_or ws (15616 + 2 * (d - 1) + 1) 0) (waiting_pairs book ws (d - 1))
unfolding waiting_pairs
twos_last book ws d h = let e : d ≡ suc (d - 1) = omega arith in rw e (let q : suc (d - 1) - 1 ≡ d - 1 = omega arith in rw q refl)

-- two words more
module _ (ws : List ℕ) (d x y : ℕ) (l : 15616 + 2 * d + 1 < length ws) where
  abbrev two_more : List ℕ
  two_more = set (set ws (15616 + 2 * d) x) (15616 + 2 * d + 1) y

  two_left : get_or two_more (15616 + 2 * d) 0 ≡ x
  two_left = get_or-set_other (set ws (15616 + 2 * d) x) (15616 + 2 * d + 1) (15616 + 2 * d) y 0 (λ e. omega arith) ∙ get_or-set_same ws (15616 + 2 * d) x 0 (omega arith)

  two_right : get_or two_more (15616 + 2 * d + 1) 0 ≡ y
  two_right = get_or-set_same (set ws (15616 + 2 * d) x) (15616 + 2 * d + 1) y 0 (rw (length-set ws (15616 + 2 * d) x) l)

  pub two_keeps : Keeps 0 (15616 + 2 * d) ws two_more
  two_keeps = keeps_trans (keeps_set 0 (15616 + 2 * d) ws (15616 + 2 * d) x (inr (omega arith))) (keeps_set 0 (15616 + 2 * d) (set ws (15616 + 2 * d) x) (15616 + 2 * d + 1) y (inr (omega arith)))

  pub twos_push : (book : List ℕ) → waiting_pairs book two_more (d + 1) ≡ pair_words book x y (waiting_pairs book ws d)
  unfolding waiting_pairs
  twos_push book =
      let e : d + 1 ≡ suc d = omega arith in
      rw e (rw (two_left, two_right, twos_same book d ws two_more (λ k i. two_keeps.same (15616 + k) (omega arith) (omega arith))) refl)

  pub twos_good : (book : List ℕ) (made : ℕ) → ((k : ℕ) → k < d → GoodTwo book made (get_or ws (15616 + 2 * k) 0) (get_or ws (15616 + 2 * k + 1) 0)) → GoodTwo book made x y
      → (k : ℕ) → k < d + 1 → GoodTwo book made (get_or two_more (15616 + 2 * k) 0) (get_or two_more (15616 + 2 * k + 1) 0)
  twos_good book made g w k i = go (dec_lt k d)
    where
      go : Dec (k < d) → GoodTwo book made (get_or two_more (15616 + 2 * k) 0) (get_or two_more (15616 + 2 * k + 1) 0)
      go (yes a) = rw (two_keeps.same (15616 + 2 * k) (omega arith) (omega arith), two_keeps.same (15616 + 2 * k + 1) (omega arith) (omega arith)) (g k a)
      go (no a) = let e : k ≡ d = omega arith in rw (e, two_left, two_right) w

-- THE LIST
pub pairs_length : (book ws : List ℕ) (s : ToPair) → length (pair_list_of book ws s) ≡ s.count + length (waiting_pairs book ws s.depth)
unfolding pair_list_of
pairs_length book ws s = both_length book s.base s.first s.beside s.other s.count (waiting_pairs book ws s.depth)

pub past_length : (book ws : List ℕ) (s : ToPair) → length (past_pairs book ws s) ≡ s.count - 1 + length (waiting_pairs book ws s.depth)
unfolding past_pairs
past_length book ws s = both_length book s.base (s.first + 1) s.beside (s.other + 1) (s.count - 1) (waiting_pairs book ws s.depth)

pub pairs_first : (book ws : List ℕ) (s : ToPair) → 0 < s.count
    → pair_list_of book ws s ≡ record { left = term_of book (field book s.first 1) s.base; right = term_of book (field book s.other 1) s.beside } ∷ past_pairs book ws s
unfolding pair_list_of past_pairs
pairs_first book ws s h = both_next book s.base s.first s.beside s.other s.count (waiting_pairs book ws s.depth) h

pub pairs_none : (book ws : List ℕ) (s : ToPair) → s.count ≡ 0 → s.depth ≡ 0 → pair_list_of book ws s ≡ []
unfolding pair_list_of waiting_pairs
pairs_none book ws s c d = both_none book s.base s.first s.beside s.other s.count (waiting_pairs book ws s.depth) c ∙ rw d refl

-- what lies elsewhere may change
module _ (book : List ℕ) (made : ℕ) (ws ws' : List ℕ) (s : ToPair) (P : Paired book made ws s) (k : Keeps 15616 16128 ws ws') where
  depth_most : s.depth ≤ 256
  depth_most = omega (arith, twos_most book made ws s.depth P.waits, P.total, P.most)

  waits_kept : waiting_pairs book ws' s.depth ≡ waiting_pairs book ws s.depth
  waits_kept = twos_same book s.depth ws ws' (λ j l. k.same (15616 + j) (omega arith) (omega (arith, depth_most)))

  pub paired_kept : Paired book made ws' s
  paired_kept = record {
    left = P.left;
    right = P.right;
    waits = λ j l. rw (k.same (15616 + 2 * j) (omega arith) (omega (arith, depth_most)), k.same (15616 + 2 * j + 1) (omega arith) (omega (arith, depth_most))) (P.waits j l);
    total = rw waits_kept P.total;
    most = P.most;
    ends = P.ends;
  }

  pub past_kept : past_pairs book ws' s ≡ past_pairs book ws s
  unfolding past_pairs
  past_kept = rw waits_kept refl

-- two runs in hand, and nothing waits
pub paired_start : (book : List ℕ) (made : ℕ) (ws : List ℕ) (b first c other m : ℕ) → GoodRun book made b first m → GoodRun book made c other m
    → Paired book made ws (record { first = first; base = b; other = other; beside = c; count = m; depth = 0; waiting = 0 })
unfolding waiting_pairs
paired_start book made ws b first c other m g h = record {
  left = g;
  right = h;
  waits = λ k i. absurd (omega arith);
  total = refl;
  most = omega (arith, g.most);
  ends = λ e. refl;
}
