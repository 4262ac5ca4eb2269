-- Laws of the search in a supposed run: along its index; and where its class is not marked in the head's bucket, nothing is found.
use mathlib.Core.Path.{◌≡◌, refl, sym, ◌∙◌, ap}
use mathlib.Core.Bool.{Bool, true, false}
use mathlib.Core.List.{List}
use Prim.Native.Nat.{ℕ, zero, suc, ◌+◌, ◌-◌, ◌≤◌, ◌<◌}
use native.Mathlib.Omega.{arith}
use Rattle.std.specs.Prelude.{None}
use Rattle.book.specs.Records.{field, records}
use Rattle.book.specs.Kinds.{kind_at, suppose_kind}
use Rattle.index.specs.Runs.{head_matches, next_match, found_below}
use Rattle.index.specs.Index.{head_bucket, bucket_of, next_in, InBucket}
use Rattle.supposed.specs.Supposed.{small_bucket, note_of, marked, marked_by, RunIndexed, SupposedIndexed}
use Rattle.index.proofs.RunLaws.{next_none, next_on, found_no}
use Rattle.index.proofs.BucketLaws.{in_bounds, skip_within, skip_same, other_head}
use Rattle.supposed.proofs.NoteLaws.{marked_by_none}

-- WHAT IS NOTED
module _ (book : List ℕ) (first n : ℕ) (ws : List ℕ) (R : RunIndexed book first n ws) (f m j : ℕ) where
  -- for the bucket's link, its first clause
  module _ (b : ℕ) (h : b < n) (e : b ≡ small_bucket n f m) (je : j ≡ note_of ws (first + b)) where
    first_is : j ≡ next_in (small_bucket n) book first (small_bucket n f m) 0 (n - 0)
    first_is = let z : n - 0 ≡ n = omega arith in je ∙ R.firsts b h ∙ rw (z, e) refl

    pub first_noted_bucket : InBucket (small_bucket n) book first n (small_bucket n f m) j
    first_noted_bucket = skip_within (small_bucket n) book first n 0 j (omega arith) (small_bucket n f m) first_is

    pub first_noted_skips : next_match book f m first j (n - j) ≡ next_match book f m first 0 n
    first_noted_skips = let z : n - 0 ≡ n = omega arith in skip_same (small_bucket n) book first n 0 j (omega arith) f m first_is ∙ rw z refl

  -- for a clause of the bucket, the next one
  module _ (i c : ℕ) (h : i < n) (ce : c ≡ field book (first + i) 1) (e : bucket_of (small_bucket n) book first i ≡ small_bucket n f m) (je : j ≡ note_of ws c) where
    noted_is : j ≡ next_in (small_bucket n) book first (small_bucket n f m) (i + 1) (n - (i + 1))
    noted_is = je ∙ ap (note_of ws) ce ∙ R.nexts i h ∙ ap (λ (x : ℕ). next_in (small_bucket n) book first x (i + 1) (n - (i + 1))) e

    pub noted_bucket : InBucket (small_bucket n) book first n (small_bucket n f m) j
    noted_bucket = skip_within (small_bucket n) book first n (i + 1) j (omega arith) (small_bucket n f m) noted_is

    pub noted_later : i < j
    noted_later = omega (arith, noted_is, (in_bounds (small_bucket n) book first (small_bucket n f m) (i + 1) (n - (i + 1))).0)

    pub noted_skips : next_match book f m first j (n - j) ≡ next_match book f m first (i + 1) (n - (i + 1))
    noted_skips = skip_same (small_bucket n) book first n (i + 1) j (omega arith) f m noted_is

-- WHERE ITS CLASS IS NOT MARKED
module _ (book : List ℕ) (ws : List ℕ) (f m s : ℕ) (I : SupposedIndexed book ws) (h : s < records book) (e : kind_at book s ≡ suppose_kind) (u : marked_by ws (head_bucket f m) s ≡ false) where
  -- a clause in the head's bucket would be marked
  unmarked_head : (i : ℕ) → i < field book s 2 → head_matches book f m (field book (field book s 1 + i) 1) ≡ false
  unmarked_head i l =
      other_head head_bucket book (field book s 1) f m i
      (λ b. let x : ◌≡◌ {A = Bool} true false = sym (I.marks s i h e l) ∙ ap (λ (y : ℕ). marked_by ws y s) (sym b) ∙ u in let w : ◌≡◌ {A = ℕ} 0 1 = cc in absurd (omega arith))

  unmarked_from : (d k : ℕ) → k + d ≡ field book s 2 → next_match book f m (field book s 1) k (field book s 2 - k) ≡ field book s 2
  unmarked_from zero k z = next_none book f m (field book s 1) k (field book s 2) (omega arith) ∙ omega arith
  unmarked_from (suc d) k z = next_on book f m (field book s 1) k (field book s 2) _ false (omega arith) refl (sym (unmarked_head k (omega arith))) refl ∙ unmarked_from d (k + 1) (omega arith)

-- no clause of a suppose goal's run matches, if its class is not marked
pub not_marked_by : (book : List ℕ) (ws : List ℕ) (f m s k : ℕ) → SupposedIndexed book ws → s < records book → kind_at book s ≡ suppose_kind → marked_by ws (head_bucket f m) s ≡ false → k ≤ field book s 2
    → next_match book f m (field book s 1) k (field book s 2 - k) ≡ field book s 2
not_marked_by book ws f m s k I h e u l = unmarked_from book ws f m s I h e u (field book s 2 - k) k (omega arith)

-- nor if none is
pub not_marked : (book : List ℕ) (ws : List ℕ) (f m s k : ℕ) → SupposedIndexed book ws → s < records book → kind_at book s ≡ suppose_kind → marked ws (head_bucket f m) ≡ false → k ≤ field book s 2
    → next_match book f m (field book s 1) k (field book s 2 - k) ≡ field book s 2
not_marked book ws f m s k I h e u = not_marked_by book ws f m s k I h e (marked_by_none ws (head_bucket f m) s u)

-- so the first of them is none, as the code says it; that the class asked for, o's, is that of s is a fact of its own
pub none_first : (book : List ℕ) (ws : List ℕ) (f m s : ℕ) → SupposedIndexed book ws → s < records book → kind_at book s ≡ suppose_kind → (o : ℕ) → o ≡ s → marked_by ws (head_bucket f m) o ≡ false
    → None ≡ found_below (field book s 2) (next_match book f m (field book s 1) 0 (field book s 2))
none_first book ws f m s I h e o same u =
    let z : field book s 2 - 0 ≡ field book s 2 = omega arith in
    found_no _ _ (omega (arith, rw z at (not_marked_by book ws f m s 0 I h e (rw same at u) (omega arith))))
