-- What making the index of the supposed runs leaves alone.
use mathlib.Core.Path.{◌≡◌, refl, ◌∙◌}
use mathlib.Core.Logic.{◌⊎◌, inl, inr}
use mathlib.Core.Bool.{Bool, true, false}
use mathlib.Core.List.{List}
use Prim.Native.Nat.{ℕ, zero, suc, ◌+◌, ◌-◌, ◌≤◌, ◌<◌}
use native.Mathlib.Omega.{arith}
use lib.Dec.{eqb}
use lib.ListN.{length}
use Rattle.book.specs.Records.{field}
use Rattle.words.specs.Frame.{Keeps}
use Rattle.words.proofs.StackLaws.{keeps_refl, keeps_trans}
use Rattle.index.specs.Index.{bucket_of, head_bucket, Indexed}
use Rattle.supposed.specs.Supposed.{small_bucket, note_words, mark_words, empty_run, enter_clause, run_words, supposed_words, SupposedIndexed}
use Rattle.index.proofs.IndexLaws.{indexed_same}
use Rattle.supposed.proofs.NoteLaws.{head_small, bucket_small, note_length, note_small, note_keeps, note_same}
use Rattle.supposed.proofs.NoteLaws.{mark_length, mark_number, mark_clause, mark_keeps, marked_same}

-- WHATEVER NOTES AND MARKS KEEP, A RUN'S KEEP
module _ (book : List ℕ) (first n : ℕ) (P : List ℕ → Type 0) (Ok : ℕ → ℕ → Type 0)
    (link : (b v : ℕ) → b < n → v ≤ n → Ok (first + b) v) (clause : (i v : ℕ) → i < n → v < 256 → Ok (field book (first + i) 1) v)
    (notes : (ws : List ℕ) (r v : ℕ) → Ok r v → P ws → P (note_words ws r v)) (marks : (ws : List ℕ) (b s : ℕ) → b < 1024 → P ws → P (mark_words ws b s)) where
  empty_holds : (k : ℕ) (ws : List ℕ) → k ≤ n → P ws → P (empty_run first n k ws)
  unfolding empty_run
  empty_holds zero ws h p = p
  empty_holds (suc k) ws h p = notes (empty_run first n k ws) (first + k) n (link k n h (omega arith)) (empty_holds k ws (omega arith) p)

  enter_holds : (s i : ℕ) (ws : List ℕ) → i < n → P ws → P (enter_clause book s first n i ws)
  unfolding enter_clause
  enter_holds s i ws h p =
      let b = bucket_of (small_bucket n) book first i in
      marks _ (bucket_of head_bucket book first i) s (head_small book first i)
      (notes _ (first + b) i (link b i (bucket_small book first n i (omega arith)) (omega arith)) (notes ws (field book (first + i) 1) _ (clause i _ h (note_small ws (first + b))) p))

  pub run_holds : (s d : ℕ) (ws : List ℕ) → d ≤ n → P ws → P (run_words book s first n d ws)
  unfolding run_words
  run_holds s zero ws h p = empty_holds n ws (omega arith) p
  run_holds s (suc d) ws h p = enter_holds s (n - suc d) (run_words book s first n d ws) (omega arith) (run_holds s d ws (omega arith) p)

-- and so do those of all runs
module _ (book : List ℕ) (P : List ℕ → Type 0) (notes : (ws : List ℕ) (r v : ℕ) → P ws → P (note_words ws r v)) (marks : (ws : List ℕ) (b s : ℕ) → b < 1024 → P ws → P (mark_words ws b s)) where
  all_hold : (k : ℕ) (ws : List ℕ) → P ws → P (supposed_words book k ws)
  unfolding supposed_words
  all_hold zero ws p = p
  all_hold (suc k) ws p = go (eqb (field book k 0) 7) (all_hold k ws p)
    where
      go : (t : Bool) → P (supposed_words book k ws)
          → P (elim t [ true ↦ run_words book k (field book k 1) (field book k 2) (field book k 2) (supposed_words book k ws) | false ↦ supposed_words book k ws ])
      go true q =
          run_holds book (field book k 1) (field book k 2) P (λ r v. Unit {0}) (λ b v h l. tt) (λ i v h l. tt) (λ ws r v u. notes ws r v) marks
          k (field book k 2) (supposed_words book k ws) (omega arith) q
      go false q = q

-- WHAT IS LEFT ALONE
pub supposed_length : (book : List ℕ) (k : ℕ) (ws : List ℕ) → length (supposed_words book k ws) ≡ length ws
supposed_length book k ws =
    all_hold book (λ (x : List ℕ). length x ≡ length ws) (λ x r v p. note_length x r v ∙ p) (λ x b s h p. mark_length x b s ∙ p) k ws refl

pub supposed_keeps : (book : List ℕ) (k lo hi : ℕ) (ws : List ℕ) → (hi ≤ 4096) ⊎ ((5120 ≤ lo) × (hi ≤ 12304)) ⊎ (13328 ≤ lo) → Keeps lo hi ws (supposed_words book k ws)
supposed_keeps book k lo hi ws h =
    all_hold book (λ (x : List ℕ). Keeps lo hi ws x) (λ x r v p. keeps_trans p (note_keeps lo hi x r v (notes h)))
    (λ x b s l p. keeps_trans p (mark_keeps lo hi x b s l (marks h))) k ws (keeps_refl lo hi ws)
  where
    notes : (hi ≤ 4096) ⊎ ((5120 ≤ lo) × (hi ≤ 12304)) ⊎ (13328 ≤ lo) → (hi ≤ 12304) ⊎ (13328 ≤ lo)
    notes (inl a) = inl (omega arith)
    notes (inr (inl a)) = inl a.1
    notes (inr (inr a)) = inr a

    marks : (hi ≤ 4096) ⊎ ((5120 ≤ lo) × (hi ≤ 12304)) ⊎ (13328 ≤ lo) → (hi ≤ 4096) ⊎ (5120 ≤ lo)
    marks (inl a) = inl a
    marks (inr (inl a)) = inr a.0
    marks (inr (inr a)) = inr (omega arith)

-- the question's own run is indexed as before, whatever is marked
pub supposed_own : (book : List ℕ) (first n k : ℕ) (ws : List ℕ) → length ws ≡ 16384 → n ≤ 1024 → Indexed book first n ws → Indexed book first n (supposed_words book k ws)
supposed_own book first n k ws l m I =
    (all_hold book (λ (x : List ℕ). (length x ≡ 16384) × Indexed book first n x)
    (λ x r v p. (note_length x r v ∙ p.0, indexed_same book first n m (note_keeps 4096 6144 x r v (inl (omega arith))) p.1))
    (λ x b s h p. (mark_length x b s ∙ p.0, own_marked x b s h p.0 p.1)) k ws (l, I)).1
  where
    own_marked : (x : List ℕ) (b g : ℕ) → b < 1024 → length x ≡ 16384 → Indexed book first n x → Indexed book first n (mark_words x b g)
    own_marked x b g h s J = record {
      firsts = λ c j. mark_number x b g c s h j ∙ J.firsts c j;
      clauses = λ c j q. mark_clause x b g c s h j ∙ J.clauses c j q;
      nexts = λ i a j. (mark_keeps 5120 6144 x b g h (inr (omega arith))).same (5120 + i) (omega arith) (omega arith) ∙ J.nexts i a j;
    }

-- the index is kept with its words
pub supposed_same : (book : List ℕ) {ws ws' : List ℕ} → Keeps 4096 5120 ws ws' → Keeps 12304 13328 ws ws' → SupposedIndexed book ws → SupposedIndexed book ws'
supposed_same book K L S = record {
  runs = λ s h e. record {
    firsts = λ b l. note_same _ L ∙ (S.runs s h e).firsts b l;
    nexts = λ i l. note_same _ L ∙ (S.runs s h e).nexts i l;
  };
  marks = λ s i h e l. marked_same _ s (head_small book (field book s 1) i) K ∙ S.marks s i h e l;
}
