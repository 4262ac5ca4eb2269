-- Laws of buckets, for any way bk of giving a bucket to a symbol and an argument count.
use mathlib.Core.Path.{◌≡◌, refl, sym, ◌∙◌}
use mathlib.Core.Bool.{Bool, true, false}
use mathlib.Core.List.{List}
use Prim.Native.Nat.{ℕ, ◌+◌, ◌-◌, ◌≤◌, ◌<◌}
use native.Mathlib.Omega.{arith}
use native.Mathlib.Decide.{ℕ_discrete}
use borrow.Author.Tests.{eq-eqb, ne_eqb, eqb-true}
use Rattle.book.specs.Records.{field}
use Rattle.index.specs.Runs.{head_matches, matches_at, next_match}
use Rattle.index.specs.Index.{bucket_of, is_in, next_in, InBucket}
use Rattle.index.proofs.SuchLaws.{such_bounds, such_found, such_here, such_on, such_same}

-- WHAT next_in FINDS
module _ (bk : ℕ → ℕ → ℕ) (book : List ℕ) (first b : ℕ) where
  pub in_bounds : (k d : ℕ) → (k ≤ next_in bk book first b k d) × (next_in bk book first b k d ≤ k + d)
  unfolding next_in
  in_bounds k d = such_bounds (is_in bk book first b) k d

  in_found : (k d : ℕ) → next_in bk book first b k d < k + d → bucket_of bk book first (next_in bk book first b k d) ≡ b
  unfolding next_in
  in_found k d h = sym (eqb-true b _ (such_found (is_in bk book first b) k d h))

  -- one more clause in front, in another bucket or in this one
  pub in_other : (k n : ℕ) → k < n → (b ≡ bucket_of bk book first k → ⊥) → next_in bk book first b (k + 1) (n - (k + 1)) ≡ next_in bk book first b k (n - k)
  unfolding next_in
  in_other k n h e = sym (such_on (is_in bk book first b) k n h (ne_eqb b (bucket_of bk book first k) e))

  pub in_this : (k n : ℕ) → k < n → b ≡ bucket_of bk book first k → k ≡ next_in bk book first b k (n - k)
  unfolding next_in
  in_this k n h e = sym (such_here (is_in bk book first b) k n h (eq-eqb b (bucket_of bk book first k) e))

-- a clause of another bucket does not match
pub other_head : (bk : ℕ → ℕ → ℕ) (book : List ℕ) (first f m k : ℕ) → (bk f m ≡ bucket_of bk book first k → ⊥) → head_matches book f m (field book (first + k) 1) ≡ false
unfolding head_matches bucket_of
other_head bk book first f m k e = go (ℕ_discrete f g) (ℕ_discrete m n)
  where
    g : ℕ
    g = field book (field book (field book (first + k) 1) 4) 1

    n : ℕ
    n = field book (field book (field book (first + k) 1) 4) 2

    go : Dec (f ≡ g) → Dec (m ≡ n) → head_matches book f m (field book (first + k) 1) ≡ false
    go (no x) y = rw (head_matches, ne_eqb f g x) refl
    go (yes x) (no y) = rw (head_matches, eq-eqb f g x, ne_eqb m n y) refl
    go (yes x) (yes y) = absurd (e (rw (x, y) refl))

-- a clause that matches is in its head's bucket
pub matching_bucket : (bk : ℕ → ℕ → ℕ) (book : List ℕ) (first f m i : ℕ) → head_matches book f m (field book (first + i) 1) ≡ true → bucket_of bk book first i ≡ bk f m
unfolding bucket_of
matching_bucket bk book first f m i e = go (ℕ_discrete (bk f m) (bucket_of bk book first i))
  where
    go : Dec (bk f m ≡ bucket_of bk book first i) → bucket_of bk book first i ≡ bk f m
    go (yes x) = sym x
    go (no x) = let y = other_head bk book first f m i x in let z : ◌≡◌ {A = Bool} true false = sym e ∙ y in let w : ◌≡◌ {A = ℕ} 0 1 = cc in absurd (omega arith)

-- so up to the next clause of the head's bucket nothing matches, and the word of the index may be taken for k
module _ (bk : ℕ → ℕ → ℕ) (book : List ℕ) (first n k r : ℕ) (h : k ≤ n) where
  pub skip_within : (b : ℕ) → r ≡ next_in bk book first b k (n - k) → InBucket bk book first n b r
  skip_within b e = let x = in_bounds bk book first b k (n - k) in record { within = rw e (omega (arith, x.1)); bucket = λ l. rw e (in_found bk book first b k (n - k) (omega (arith, e, l))) }

  pub skip_same : (f m : ℕ) → r ≡ next_in bk book first (bk f m) k (n - k) → next_match book f m first r (n - r) ≡ next_match book f m first k (n - k)
  unfolding next_in next_match
  skip_same f m e = rw e (such_same (is_in bk book first (bk f m)) (matches_at book f m first) (λ i x. eq-eqb (bk f m) (bucket_of bk book first i) (sym (matching_bucket bk book first f m i x))) k n h)
