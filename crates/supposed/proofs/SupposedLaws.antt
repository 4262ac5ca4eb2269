-- Laws of the index of the supposed runs: what is written says what it should, run by run, as no run touches another (test 6).
use mathlib.Core.Path.{◌≡◌, refl, sym, ◌∙◌}
use mathlib.Core.Bool.{Bool, true, false}
use mathlib.Core.List.{List}
use Prim.Native.Nat.{ℕ, zero, suc, ◌+◌, ◌-◌, ◌≤◌, ◌<◌}
use native.Mathlib.Omega.{arith}
use native.Mathlib.Decide.{dec_lt, ℕ_discrete}
use lib.Dec.{eqb}
use lib.ListN.{length}
use Rattle.book.specs.Records.{field, records}
use Rattle.book.specs.Kinds.{suppose_kind, kind_of, kind_at}
use Rattle.book.proofs.Tests.{Tested, equal, other, tested}
use Rattle.book.proofs.KindLaws.{kind_says}
use Rattle.book.proofs.Accepted.{Accepted}
use Rattle.book.proofs.Apart.{links_apart, targets_apart, supposed_links, link_not_clause}
use Rattle.words.proofs.ReadLaws.{in_book}
use Rattle.words.proofs.FromAccepted.{readable}
use Rattle.index.specs.Index.{bucket_of, next_in, head_bucket}
use Rattle.supposed.specs.Supposed.{small_bucket, note_of, note_words, marked_by, mark_words, empty_run, enter_clause, run_words, supposed_words, RunIndexed, SupposedBelow, SupposedIndexed}
use Rattle.index.specs.Runs.{next_such, ClauseRun}
use Rattle.index.proofs.RunLaws.{seven_kind, suppose_run}
use Rattle.index.proofs.BucketLaws.{in_other, in_this}
use Rattle.supposed.proofs.NoteLaws.{head_small, bucket_small, note_length, note_small, note_here, note_other, mark_note, note_marked}
use Rattle.supposed.proofs.NoteLaws.{mark_length, mark_stays, mark_here}
use Rattle.supposed.proofs.SupposedKeeps.{run_holds, supposed_length}

-- ONE RUN

-- the links of a run and their clauses: no two of these records are one
record Apart (book : List ℕ) (first n : ℕ) : Type 0 where
  most : n ≤ 64
  links : (b : ℕ) → b < n → first + b < 4096
  clauses : (i : ℕ) → i < n → field book (first + i) 1 < 4096
  differ : (b i : ℕ) → b < n → i < n → first + b ≡ field book (first + i) 1 → ⊥
  once : (i j : ℕ) → i < n → j < n → field book (first + i) 1 ≡ field book (first + j) 1 → i ≡ j

-- the clauses from number i on of suppose goal s's run entered and marked
record EnteredFrom (book : List ℕ) (s first n i : ℕ) (ws : List ℕ) : Type 0 where
  size : length ws ≡ 16384
  firsts : (b : ℕ) → b < n → note_of ws (first + b) ≡ next_in (small_bucket n) book first b i (n - i)
  nexts : (j : ℕ) → i ≤ j → j < n → note_of ws (field book (first + j) 1) ≡ next_in (small_bucket n) book first (bucket_of (small_bucket n) book first j) (j + 1) (n - (j + 1))
  marks : (j : ℕ) → i ≤ j → j < n → marked_by ws (bucket_of head_bucket book first j) s ≡ true

module _ (book : List ℕ) (s first n : ℕ) (A : Apart book first n) where
  empty_length : (k : ℕ) (ws : List ℕ) → length (empty_run first n k ws) ≡ length ws
  unfolding empty_run
  empty_length zero ws = refl
  empty_length (suc k) ws = note_length _ (first + k) n ∙ empty_length k ws

  empty_notes : (k b : ℕ) (ws : List ℕ) → k ≤ n → b < k → length ws ≡ 16384 → note_of (empty_run first n k ws) (first + b) ≡ n
  unfolding empty_run
  empty_notes zero b ws h l z = absurd (omega arith)
  empty_notes (suc k) b ws h l z = go (λ a. empty_notes k b ws (omega arith) a z) (ℕ_discrete k b)
    where
      size : length (empty_run first n k ws) ≡ 16384
      size = empty_length k ws ∙ z

      go : (b < k → note_of (empty_run first n k ws) (first + b) ≡ n) → Dec (k ≡ b) → note_of (note_words (empty_run first n k ws) (first + k) n) (first + b) ≡ n
      go f (yes e) = rw (sym e) (note_here _ (first + k) n size (A.links k h) (omega (arith, A.most)))
      go f (no e) =
          note_other _ (first + k) (first + b) n size (A.links k h) (A.links b (omega arith)) (omega (arith, A.most)) (λ z. e (omega (arith, z))) ∙ f (omega arith)

  entered_none : (ws : List ℕ) → length ws ≡ 16384 → EnteredFrom book s first n n (empty_run first n n ws)
  unfolding next_in next_such
  entered_none ws l = record {
    size = empty_length n ws ∙ l;
    firsts = λ b h. empty_notes n b ws (omega arith) h l ∙ (let z : n - n ≡ 0 = omega arith in rw z refl);
    nexts = λ j a b. absurd (omega arith);
    marks = λ j a b. absurd (omega arith);
  }

  module _ (i : ℕ) (h : i < n) (ws : List ℕ) (E : EnteredFrom book s first n (i + 1) ws) where
    abbrev b : ℕ
    b = bucket_of (small_bucket n) book first i

    abbrev c : ℕ → ℕ
    c j = field book (first + j) 1

    abbrev one : List ℕ
    one = note_words ws (c i) (note_of ws (first + b))

    abbrev two : List ℕ
    two = note_words one (first + b) i

    abbrev three : List ℕ
    three = mark_words two (bucket_of head_bucket book first i) s

    b_small : b < n
    b_small = bucket_small book first n i (omega arith)

    i_small : i < 256
    i_small = omega (arith, A.most)

    size_one : length one ≡ 16384
    size_one = note_length ws (c i) _ ∙ E.size

    size_two : length two ≡ 16384
    size_two = note_length one (first + b) i ∙ size_one

    firsts_more : (x : ℕ) → x < n → note_of three (first + x) ≡ next_in (small_bucket n) book first x i (n - i)
    firsts_more x l = mark_note two _ s (first + x) (head_small book first i) ∙ go (ℕ_discrete x b)
      where
        go : Dec (x ≡ b) → note_of two (first + x) ≡ next_in (small_bucket n) book first x i (n - i)
        go (yes e) = rw e (note_here one (first + b) i size_one (A.links b b_small) i_small) ∙ in_this (small_bucket n) book first x i n h e
        go (no e) =
            note_other one (first + b) (first + x) i size_one (A.links b b_small) (A.links x l) i_small (λ z. e (omega (arith, z)))
            ∙ note_other ws (c i) (first + x) _ E.size (A.clauses i h) (A.links x l) (note_small ws (first + b)) (λ z. A.differ x i l h (sym z))
            ∙ E.firsts x l ∙ in_other (small_bucket n) book first x i n h e

    nexts_more : (j : ℕ) → i ≤ j → j < n → note_of three (c j) ≡ next_in (small_bucket n) book first (bucket_of (small_bucket n) book first j) (j + 1) (n - (j + 1))
    nexts_more j u v =
        mark_note two _ s (c j) (head_small book first i) ∙ note_other one (first + b) (c j) i size_one (A.links b b_small) (A.clauses j v) i_small (A.differ b j b_small v)
        ∙ go (ℕ_discrete i j)
      where
        go : Dec (i ≡ j) → note_of one (c j) ≡ next_in (small_bucket n) book first (bucket_of (small_bucket n) book first j) (j + 1) (n - (j + 1))
        go (yes e) = rw (sym e) (note_here ws (c i) _ E.size (A.clauses i h) (note_small ws (first + b)) ∙ E.firsts b b_small)
        go (no e) = note_other ws (c i) (c j) _ E.size (A.clauses i h) (A.clauses j v) (note_small ws (first + b)) (λ z. e (A.once i j h v z)) ∙ E.nexts j (omega arith) v

    marks_more : (j : ℕ) → i ≤ j → j < n → marked_by three (bucket_of head_bucket book first j) s ≡ true
    marks_more j u v = go (ℕ_discrete i j)
      where
        go : Dec (i ≡ j) → marked_by three (bucket_of head_bucket book first j) s ≡ true
        go (yes e) = rw (sym e) (mark_here two _ s size_two (head_small book first i))
        go (no e) =
            mark_stays two _ s _ size_two (head_small book first i) (head_small book first j) s
            (note_marked one (first + b) i _ s (head_small book first j) ∙ note_marked ws (c i) _ _ s (head_small book first j) ∙ E.marks j (omega arith) v)

    entered_more : EnteredFrom book s first n i (enter_clause book s first n i ws)
    unfolding enter_clause
    entered_more = record {
      size = mark_length two _ s ∙ size_two;
      firsts = firsts_more;
      nexts = nexts_more;
      marks = marks_more;
    }

  entered_from : (d : ℕ) (ws : List ℕ) → d ≤ n → length ws ≡ 16384 → EnteredFrom book s first n (n - d) (run_words book s first n d ws)
  unfolding run_words
  entered_from zero ws h l = let z : n - 0 ≡ n = omega arith in rw z (entered_none ws l)
  entered_from (suc d) ws h l = let z : n - d ≡ n - suc d + 1 = omega arith in entered_more (n - suc d) (omega arith) (run_words book s first n d ws) (rw z at (entered_from d ws (omega arith) l))

  entered_all : (ws : List ℕ) → length ws ≡ 16384 → EnteredFrom book s first n 0 (run_words book s first n n ws)
  entered_all ws l = let z : n - n ≡ 0 = omega arith in rw z at (entered_from n ws (omega arith) l)

  entered_run : (ws : List ℕ) → EnteredFrom book s first n 0 ws → RunIndexed book first n ws
  entered_run ws E = record { firsts = λ b h. E.firsts b h ∙ (let z : n - 0 ≡ n = omega arith in rw z refl); nexts = λ i h. E.nexts i (omega arith) h }

  -- WHAT A RUN LEAVES ALONE
  run_note : (r : ℕ) (ws : List ℕ) → length ws ≡ 16384 → r < 4096 → ((b : ℕ) → b < n → first + b ≡ r → ⊥) → ((i : ℕ) → i < n → field book (first + i) 1 ≡ r → ⊥)
      → note_of (run_words book s first n n ws) r ≡ note_of ws r
  run_note r ws k h p q =
      (run_holds book first n (λ (x : List ℕ). (length x ≡ 16384) × (note_of x r ≡ note_of ws r)) (λ (y v : ℕ). (y < 4096) × (v < 256) × (y ≡ r → ⊥))
      (λ b v l m. (A.links b l, omega (arith, A.most), p b l)) (λ i v l m. (A.clauses i l, m, q i l))
      (λ x y v o e. (note_length x y v ∙ e.0, note_other x y r v e.0 o.0 h o.1 o.2 ∙ e.1))
      (λ x b g l e. (mark_length x b g ∙ e.0, mark_note x b g r l ∙ e.1)) s n ws (omega arith) (k, refl)).1

  run_mark : (c t : ℕ) (ws : List ℕ) → length ws ≡ 16384 → c < 1024 → marked_by ws c t ≡ true → marked_by (run_words book s first n n ws) c t ≡ true
  run_mark c t ws l h e =
      (run_holds book first n (λ (x : List ℕ). (length x ≡ 16384) × (marked_by x c t ≡ true)) (λ (y v : ℕ). Unit {0}) (λ b v l m. tt) (λ i v l m. tt)
      (λ x y v o p. (note_length x y v ∙ p.0, note_marked x y v c t h ∙ p.1))
      (λ x b g k p. (mark_length x b g ∙ p.0, mark_stays x b g c p.0 k h t p.1)) s n ws (omega arith) (l, e)).1

-- ALL RUNS
suppose_seven : (n : ℕ) → kind_of n ≡ suppose_kind → n ≡ 7
suppose_seven n e = rw e at (kind_says n)

module _ (book : List ℕ) (A : Accepted book) where
  module _ (s : ℕ) (h : s < records book) (e : kind_at book s ≡ suppose_kind) where
    bounds : ClauseRun book (field book s 1) (field book s 2) × (0 < field book s 2) × (field book s 2 ≤ 64) × (field book s 1 + field book s 2 ≤ 4096)
    bounds = suppose_run book (readable book A) A.formed s h e

    run_apart : Apart book (field book s 1) (field book s 2)
    run_apart = record {
      most = bounds.2;
      links = λ b l. omega (arith, bounds.3);
      clauses = λ i l. (in_book book (readable book A) _ (bounds.0 i l).1).1;
      differ = λ b i l m. link_not_clause book _ _ (supposed_links book A.formed s b h e l).1 (supposed_links book A.formed s i h e m).3;
      once = λ i j l m q.
          let x = supposed_links book A.formed s i h e l in let y = supposed_links book A.formed s j h e m in
          omega (arith, targets_apart book A (field book s 1 + i) (field book s 1 + j) (omega (arith, x.0)) (omega (arith, y.0)) x.1 y.1 q);
    }

    -- no record of this run is one of another's
    module _ (t : ℕ) (k : t < records book) (f : kind_at book t ≡ suppose_kind) (d : s ≡ t → ⊥) where
      links_differ : (b : ℕ) → b < field book s 2 → (c : ℕ) → c < field book t 2 → field book s 1 + b ≡ field book t 1 + c → ⊥
      links_differ b l c m q = d (links_apart book A s t b c h k e f l m q)

      link_clause : (b : ℕ) → b < field book s 2 → (i : ℕ) → i < field book t 2 → field book s 1 + b ≡ field book (field book t 1 + i) 1 → ⊥
      link_clause b l i m = link_not_clause book _ _ (supposed_links book A.formed s b h e l).1 (supposed_links book A.formed t i k f m).3

      clauses_differ : (i : ℕ) → i < field book s 2 → (j : ℕ) → j < field book t 2 → field book (field book s 1 + i) 1 ≡ field book (field book t 1 + j) 1 → ⊥
      clauses_differ i l j m q =
          let x = supposed_links book A.formed s i h e l in let y = supposed_links book A.formed t j k f m in
          links_differ i l j m (targets_apart book A (field book s 1 + i) (field book t 1 + j) (omega (arith, x.0)) (omega (arith, y.0)) x.1 y.1 q)

  -- one more suppose goal: its own run is right, and the others are as they were
  module _ (k : ℕ) (h : k < records book) (e : kind_at book k ≡ suppose_kind) (ws : List ℕ) (l : length ws ≡ 16384) (S : SupposedBelow book k ws) where
    abbrev made : List ℕ
    made = run_words book k (field book k 1) (field book k 2) (field book k 2) ws

    all_made : EnteredFrom book k (field book k 1) (field book k 2) 0 made
    all_made = entered_all book k (field book k 1) (field book k 2) (run_apart k h e) ws l

    run_stays : (s : ℕ) → s < k → kind_at book s ≡ suppose_kind → RunIndexed book (field book s 1) (field book s 2) made
    run_stays s a f = record {
      firsts = λ b m.
          run_note book k (field book k 1) (field book k 2) (run_apart k h e) (field book s 1 + b) ws l ((run_apart s (omega arith) f).links b m)
          (λ c u. links_differ k h e s (omega arith) f (λ z. omega (arith, z)) c u b m)
          (λ i u z. link_clause s (omega arith) f k h e (λ z. omega (arith, z)) b m i u (sym z)) ∙ (S.runs s a f).firsts b m;
      nexts = λ j m.
          run_note book k (field book k 1) (field book k 2) (run_apart k h e) (field book (field book s 1 + j) 1) ws l ((run_apart s (omega arith) f).clauses j m)
          (λ c u. link_clause k h e s (omega arith) f (λ z. omega (arith, z)) c u j m)
          (λ i u. clauses_differ k h e s (omega arith) f (λ z. omega (arith, z)) i u j m) ∙ (S.runs s a f).nexts j m;
    }

    below_more : SupposedBelow book (suc k) made
    below_more = record { runs = λ s a f. runs_go s a f (dec_lt s k); marks = λ s i a f m. marks_go s i a f m (dec_lt s k) }
      where
        runs_go : (s : ℕ) → s < suc k → kind_at book s ≡ suppose_kind → Dec (s < k) → RunIndexed book (field book s 1) (field book s 2) made
        runs_go s a f (yes b) = run_stays s b f
        runs_go s a f (no b) = let z : s ≡ k = omega arith in rw z (entered_run book k (field book k 1) (field book k 2) (run_apart k h e) made all_made)

        marks_go : (s i : ℕ) → s < suc k → kind_at book s ≡ suppose_kind → i < field book s 2 → Dec (s < k) → marked_by made (bucket_of head_bucket book (field book s 1) i) s ≡ true
        marks_go s i a f m (yes b) =
            run_mark book k (field book k 1) (field book k 2) (run_apart k h e) _ s ws l (head_small book (field book s 1) i) (S.marks s i b f m)
        marks_go s i a f m (no b) = let z : s ≡ k = omega arith in let q : i < field book k 2 = rw z at m in rw z (all_made.marks i (omega arith) q)

  -- one more record that is none
  below_skip : (k : ℕ) (ws : List ℕ) → (field book k 0 ≡ 7 → ⊥) → SupposedBelow book k ws → SupposedBelow book (suc k) ws
  unfolding kind_at
  below_skip k ws d S = record { runs = λ s a f. S.runs s (below s a f) f; marks = λ s i a f m. S.marks s i (below s a f) f m }
    where
      below : (s : ℕ) → s < suc k → kind_at book s ≡ suppose_kind → s < k
      below s a f = go (ℕ_discrete s k)
        where
          go : Dec (s ≡ k) → s < k
          go (yes e) = absurd (d (rw e at (suppose_seven (field book s 0) f)))
          go (no e) = omega arith

  below_all : (k : ℕ) (ws : List ℕ) → k ≤ records book → length ws ≡ 16384 → SupposedBelow book k (supposed_words book k ws)
  unfolding supposed_words
  below_all zero ws h l = record { runs = λ s a f. absurd (omega arith); marks = λ s i a f m. absurd (omega arith) }
  below_all (suc k) ws h l = go (eqb (field book k 0) 7) (tested (field book k 0) 7) (below_all k ws (omega arith) l)
    where
      go : (t : Bool) → Tested (field book k 0) 7 t → SupposedBelow book k (supposed_words book k ws)
          → SupposedBelow book (suc k) (elim t [ true ↦ run_words book k (field book k 1) (field book k 2) (field book k 2) (supposed_words book k ws) | false ↦ supposed_words book k ws ])
      go true (equal e) S = below_more k h (seven_kind book k e) (supposed_words book k ws) (supposed_length book k ws ∙ l) S
      go false (other e) S = below_skip k (supposed_words book k ws) e S

pub supposed_all : (book : List ℕ) → Accepted book → (ws : List ℕ) → length ws ≡ 16384 → SupposedIndexed book (supposed_words book (records book) ws)
supposed_all book A ws l = below_all book A (records book) ws (omega arith) l
