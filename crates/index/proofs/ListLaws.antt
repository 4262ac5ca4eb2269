-- Laws of the lists of heads: the search for a head goes along its bucket's list, and what changes when one more clause is entered in front.
use mathlib.Core.Path.{◌≡◌, refl, sym, ◌∙◌}
use mathlib.Core.Bool.{Bool, true, false, ◌&&◌}
use mathlib.Core.List.{List}
use Prim.Native.Nat.{ℕ, zero, suc, ◌+◌, ◌-◌, ◌*◌, ◌/◌, ◌%◌, ◌≤◌, ◌<◌}
use native.Mathlib.Omega.{arith}
use native.Mathlib.Decide.{dec_lt}
use borrow.Author.Tests.{eq-eqb, ne_eqb, eqb-true, lt-ltb, le-ltb}
use lib.Dec.{eqb}
use Rattle.book.specs.Records.{field}
use Rattle.book.proofs.Tests.{and_true}
use Rattle.index.specs.Runs.{head_matches, matches_at, next_match}
use Rattle.index.specs.Index.{head_bucket, bucket_of, symbol_of, count_of, start_of, next_same, is_last, in_list, next_last, last_head, last_match, link_or, word_of}
use Rattle.index.proofs.SuchLaws.{clash, such_bounds, such_found, such_most, such_none, such_here, such_on, such_same}
use Rattle.index.proofs.RunLaws.{next_none, next_found, next_on}
use Rattle.index.proofs.BucketLaws.{matching_bucket}

-- WHAT STANDS FOR THE NEXT CLAUSE OF A LIST
pub link_some : (n i l : ℕ) → l < n → link_or n i l ≡ l
unfolding link_or
link_some n i l h = rw (link_or, lt-ltb l n h) refl

pub link_none : (n i l : ℕ) → n ≤ l → link_or n i l ≡ i
unfolding link_or
link_none n i l h = rw (link_or, le-ltb l n h) refl

pub link_small : (n i l : ℕ) → i < n → link_or n i l < n
link_small n i l h = go (dec_lt l n)
  where
    go : Dec (l < n) → link_or n i l < n
    go (yes x) = omega (arith, link_some n i l x)
    go (no x) = omega (arith, link_none n i l (omega arith))

-- the code's numbers are those of the clause's head
pub code_head : (book : List ℕ) (first i c h f m : ℕ) → c ≡ field book (first + i) 1 → h ≡ field book c 4 → f ≡ field book h 1 → m ≡ field book h 2 → head_matches book f m (field book (first + i) 1) ≡ true
unfolding head_matches
code_head book first i c h f m ce he fe me =
    let x : f ≡ field book (field book (field book (first + i) 1) 4) 1 = fe ∙ rw (he, ce) refl in
    let y : m ≡ field book (field book (field book (first + i) 1) 4) 2 = me ∙ rw (he, ce) refl in
    rw (head_matches, eq-eqb f _ x, eq-eqb m _ y) refl

-- HEADS
module _ (book : List ℕ) (first : ℕ) where
  -- the head of a clause that matches
  head_is : (f m i : ℕ) → head_matches book f m (field book (first + i) 1) ≡ true → (f ≡ symbol_of book first i) × (m ≡ count_of book first i)
  unfolding head_matches symbol_of count_of
  head_is f m i e = let x = and_true _ _ e in (eqb-true _ _ x.0, eqb-true _ _ x.1)

  own_head : (i : ℕ) → head_matches book (symbol_of book first i) (count_of book first i) (field book (first + i) 1) ≡ true
  unfolding head_matches symbol_of count_of
  own_head i = rw (head_matches, eq-eqb (symbol_of book first i) (symbol_of book first i) refl, eq-eqb (count_of book first i) (count_of book first i) refl) refl

  match_bounds : (f m k n : ℕ) → k ≤ n → (k ≤ next_match book f m first k (n - k)) × (next_match book f m first k (n - k) ≤ n)
  unfolding next_match
  match_bounds f m k n h = let x = such_bounds (matches_at book f m first) k (n - k) in (x.0, omega (arith, x.1))

  pub match_most : (f m k n z : ℕ) → k ≤ z → z < n → head_matches book f m (field book (first + z) 1) ≡ true → next_match book f m first k (n - k) ≤ z
  unfolding next_match
  match_most f m k n z a b e = such_most (matches_at book f m first) k (n - k) z a (omega arith) e

  module _ (n : ℕ) where
    -- the first clause with the head of a clause that matches is the first that matches
    pub start_is : (f m i j : ℕ) → head_matches book f m (field book (first + j) 1) ≡ true → start_of book first n i j ≡ next_match book f m first i (n - i)
    unfolding start_of
    start_is f m i j e = let x = head_is f m j e in rw (← x.0, ← x.1) refl

    pub start_bounds : (i j : ℕ) → i ≤ n → (i ≤ start_of book first n i j) × (start_of book first n i j ≤ n)
    unfolding start_of
    start_bounds i j h = match_bounds (symbol_of book first j) (count_of book first j) i n h

    last_yes : (i : ℕ) → next_same book first n i ≡ n → is_last book first n i ≡ true
    unfolding is_last
    last_yes i e = eq-eqb _ _ e

    last_no : (i : ℕ) → next_same book first n i < n → is_last book first n i ≡ false
    unfolding is_last
    last_no i h = ne_eqb (next_same book first n i) n (λ (z : next_same book first n i ≡ n). omega (arith, h, z))

    last_says : (i : ℕ) → is_last book first n i ≡ true → next_same book first n i ≡ n
    unfolding is_last
    last_says i e = eqb-true _ _ e

    -- LAST CLAUSES
    module _ (f m : ℕ) where
      last_head_says : (i : ℕ) → last_head book f m first n i ≡ true → (head_matches book f m (field book (first + i) 1) ≡ true) × (is_last book first n i ≡ true)
      unfolding last_head
      last_head_says i e = and_true _ _ e

      head_last : (i : ℕ) → head_matches book f m (field book (first + i) 1) ≡ true → is_last book first n i ≡ true → last_head book f m first n i ≡ true
      unfolding last_head
      head_last i e d = rw (last_head, e, d) refl

      other_last : (i : ℕ) → head_matches book f m (field book (first + i) 1) ≡ false → last_head book f m first n i ≡ false
      unfolding last_head
      other_last i e = rw (last_head, e) refl

      not_last : (i : ℕ) → is_last book first n i ≡ false → last_head book f m first n i ≡ false
      unfolding last_head
      not_last i e = go (head_matches book f m (field book (first + i) 1))
        where
          go : (t : Bool) → (t && is_last book first n i) ≡ false
          go true = e
          go false = refl

      pub last_bounds : (k : ℕ) → k ≤ n → (k ≤ last_match book f m first n k) × (last_match book f m first n k ≤ n)
      unfolding last_match
      last_bounds k h = let x = such_bounds (last_head book f m first n) k (n - k) in (x.0, omega (arith, x.1))

      pub last_found : (k : ℕ) → k ≤ n → last_match book f m first n k < n
          → (head_matches book f m (field book (first + last_match book f m first n k) 1) ≡ true) × (is_last book first n (last_match book f m first n k) ≡ true)
      unfolding last_match
      last_found k h l = last_head_says _ (such_found (last_head book f m first n) k (n - k) (omega arith))

      pub last_none : (k : ℕ) → n ≤ k → last_match book f m first n k ≡ k
      unfolding last_match
      last_none k h = such_none (last_head book f m first n) k n h

      pub last_here : (k : ℕ) → k < n → head_matches book f m (field book (first + k) 1) ≡ true → is_last book first n k ≡ true → last_match book f m first n k ≡ k
      unfolding last_match
      last_here k h e d = such_here (last_head book f m first n) k n h (head_last k e d)

      last_on : (k : ℕ) → k < n → last_head book f m first n k ≡ false → last_match book f m first n k ≡ last_match book f m first n (k + 1)
      unfolding last_match
      last_on k h e = such_on (last_head book f m first n) k n h e

      pub last_past : (k : ℕ) → k < n → head_matches book f m (field book (first + k) 1) ≡ false → last_match book f m first n k ≡ last_match book f m first n (k + 1)
      last_past k h e = last_on k h (other_last k e)

      -- if a clause matches, then a last one does
      last_from : (d k : ℕ) → k + d ≡ n → next_match book f m first k (n - k) < n → last_match book f m first n k < n
      last_from zero k z l = absurd (omega (arith, next_none book f m first k n (omega arith)))
      last_from (suc d) k z l = go (head_matches book f m (field book (first + k) 1)) refl (is_last book first n k) refl (last_from d (k + 1) (omega arith))
        where
          less : (x : ℕ) → x ≤ n → (x ≡ n → ⊥) → x < n
          less x a b = omega arith

          go : (t : Bool) → head_matches book f m (field book (first + k) 1) ≡ t → (u : Bool) → is_last book first n k ≡ u
              → (next_match book f m first (k + 1) (n - (k + 1)) < n → last_match book f m first n (k + 1) < n) → last_match book f m first n k < n
          go true e true y ih = omega (arith, last_here k (omega arith) e y)
          go true e false y ih =
              let s = start_is f m (k + 1) k e in
              let b = match_bounds f m (k + 1) n (omega arith) in
              let r = ih (less _ b.1 (λ q. clash (last_yes k (s ∙ q)) y)) in
              omega (arith, r, last_on k (omega arith) (not_last k y))
          go false e u y ih =
              let s = next_on book f m first k n _ _ (omega arith) refl (sym e) refl in
              let r = ih (omega (arith, l, s)) in
              omega (arith, r, last_past k (omega arith) e)

      pub none_matches : (k : ℕ) → k ≤ n → n ≤ last_match book f m first n k → next_match book f m first k (n - k) ≡ n
      none_matches k h l = go (dec_lt (next_match book f m first k (n - k)) n)
        where
          go : Dec (next_match book f m first k (n - k) < n) → next_match book f m first k (n - k) ≡ n
          go (yes x) = absurd (omega (arith, last_from (n - k) k (omega arith) x))
          go (no x) = omega (arith, (match_bounds f m k n h).1)

      -- along the head's list: the last match is not passed over
      in_head_list : (k : ℕ) → last_head book f m first n k ≡ true → in_list book first n (head_bucket f m) k ≡ true
      unfolding in_list
      in_head_list k e = let x = last_head_says k e in rw (in_list, eq-eqb (head_bucket f m) (bucket_of head_bucket book first k) (sym (matching_bucket head_bucket book first f m k x.0)), x.1) refl

      pub list_skips : (k : ℕ) → k ≤ n → last_match book f m first n (next_last book first n (head_bucket f m) k (n - k)) ≡ last_match book f m first n k
      unfolding last_match
      list_skips k h = such_same (in_list book first n (head_bucket f m)) (last_head book f m first n) in_head_list k n h

    -- THE LIST OF A BUCKET
    pub list_bounds : (b k : ℕ) → k ≤ n → (k ≤ next_last book first n b k (n - k)) × (next_last book first n b k (n - k) ≤ n)
    list_bounds b k h = let x = such_bounds (in_list book first n b) k (n - k) in (x.0, omega (arith, x.1))

    pub list_found : (b k : ℕ) → k ≤ n → next_last book first n b k (n - k) < n
        → (bucket_of head_bucket book first (next_last book first n b k (n - k)) ≡ b) × (is_last book first n (next_last book first n b k (n - k)) ≡ true)
    unfolding in_list
    list_found b k h l = let x = and_true _ _ (such_found (in_list book first n b) k (n - k) (omega arith)) in (sym (eqb-true _ _ x.0), x.1)

    pub list_here : (k : ℕ) → k < n → is_last book first n k ≡ true → next_last book first n (bucket_of head_bucket book first k) k (n - k) ≡ k
    unfolding in_list
    list_here k h e = such_here (in_list book first n (bucket_of head_bucket book first k)) k n h (rw (in_list, eq-eqb (bucket_of head_bucket book first k) (bucket_of head_bucket book first k) refl, e) refl)

    pub list_other : (b k : ℕ) → k < n → (b ≡ bucket_of head_bucket book first k → ⊥) → next_last book first n b k (n - k) ≡ next_last book first n b (k + 1) (n - (k + 1))
    unfolding in_list
    list_other b k h e = such_on (in_list book first n b) k n h (rw (in_list, ne_eqb b (bucket_of head_bucket book first k) e) refl)

    pub list_past : (b k : ℕ) → k < n → is_last book first n k ≡ false → next_last book first n b k (n - k) ≡ next_last book first n b (k + 1) (n - (k + 1))
    unfolding in_list
    list_past b k h e = such_on (in_list book first n b) k n h (go (eqb b (bucket_of head_bucket book first k)))
      where
        go : (t : Bool) → (t && is_last book first n k) ≡ false
        go true = e
        go false = refl

    -- THE WORD OF A CLAUSE
    pub word_last : (i j : ℕ) → is_last book first n j ≡ true
        → word_of book first n i j ≡ 4194304 * link_or n j (next_last book first n (bucket_of head_bucket book first j) (j + 1) (n - (j + 1))) + 2048 * start_of book first n i j + n
    unfolding word_of
    word_last i j e = rw (word_of, e) refl

    pub word_not : (i j : ℕ) → is_last book first n j ≡ false → word_of book first n i j ≡ next_same book first n j
    unfolding word_of
    word_not i j e = rw (word_of, e) refl

    module _ (most : n ≤ 1024) where
      -- its parts
      module _ (i j : ℕ) (a : i ≤ n) (h : j < n) (e : is_last book first n j ≡ true) where
        pub word_link : word_of book first n i j / 4194304 ≡ link_or n j (next_last book first n (bucket_of head_bucket book first j) (j + 1) (n - (j + 1)))
        word_link = rw (word_last i j e) (omega (arith, (start_bounds i j a).1))

        pub word_start : word_of book first n i j / 2048 % 2048 ≡ start_of book first n i j
        word_start = rw (word_last i j e) (omega (arith, (start_bounds i j a).1))

      pub word_same : (i j : ℕ) → i ≤ n → j < n → word_of book first n i j % 2048 ≡ next_same book first n j
      word_same i j a h = go (is_last book first n j) refl
        where
          go : (t : Bool) → is_last book first n j ≡ t → word_of book first n i j % 2048 ≡ next_same book first n j
          go true e = rw (word_last i j e) (omega (arith, last_says j e))
          go false e = rw (word_not i j e) (omega (arith, (start_bounds (j + 1) j (omega arith)).1))

    -- ONE MORE CLAUSE IN FRONT
    module _ (f m i : ℕ) (h : i < n) (e : head_matches book f m (field book (first + i) 1) ≡ true) where
      -- a clause whose head clause i has, has clause i's head
      heads_back : (j : ℕ) → head_matches book (symbol_of book first j) (count_of book first j) (field book (first + i) 1) ≡ true → head_matches book f m (field book (first + j) 1) ≡ true
      heads_back j d =
          let x = head_is f m i e in
          let y = head_is (symbol_of book first j) (count_of book first j) i d in
          let u : f ≡ symbol_of book first j = x.0 ∙ sym y.0 in
          let v : m ≡ count_of book first j = x.1 ∙ sym y.1 in
          rw (u, v) (own_head j)

      pub start_here : (j : ℕ) → head_matches book f m (field book (first + j) 1) ≡ true → start_of book first n i j ≡ i
      start_here j d = start_is f m i j d ∙ next_found book f m first i n _ _ h refl (sym e) refl

      start_past : (j : ℕ) → head_matches book (symbol_of book first j) (count_of book first j) (field book (first + i) 1) ≡ false → start_of book first n (i + 1) j ≡ start_of book first n i j
      unfolding start_of
      start_past j x = sym (next_on book (symbol_of book first j) (count_of book first j) first i n _ _ h refl (sym x) refl)

      -- the words of the other heads are as they were
      pub word_keep : (j : ℕ) → (is_last book first n j ≡ true → head_matches book f m (field book (first + j) 1) ≡ true → ⊥) → word_of book first n (i + 1) j ≡ word_of book first n i j
      word_keep j d = go (is_last book first n j) refl
        where
          same : (t : Bool) → head_matches book (symbol_of book first j) (count_of book first j) (field book (first + i) 1) ≡ t → is_last book first n j ≡ true → start_of book first n (i + 1) j ≡ start_of book first n i j
          same true x y = absurd (d y (heads_back j x))
          same false x y = start_past j x

          go : (t : Bool) → is_last book first n j ≡ t → word_of book first n (i + 1) j ≡ word_of book first n i j
          go true y = word_last (i + 1) j y ∙ (let s = same _ refl y in rw s refl) ∙ sym (word_last i j y)
          go false y = word_not (i + 1) j y ∙ sym (word_not i j y)

      -- two last clauses with one head are one
      last_order : (j z : ℕ) → j < z → z < n → head_matches book f m (field book (first + j) 1) ≡ true → is_last book first n j ≡ true → head_matches book f m (field book (first + z) 1) ≡ true → ⊥
      last_order j z a b d y x =
          let u = match_most f m (j + 1) n z (omega arith) b x in
          let v = start_is f m (j + 1) j d in
          let w = last_says j y in
          omega (arith, u, v, w)

      pub last_one : (j z : ℕ) → j < n → z < n → head_matches book f m (field book (first + j) 1) ≡ true → is_last book first n j ≡ true
          → head_matches book f m (field book (first + z) 1) ≡ true → is_last book first n z ≡ true → j ≡ z
      last_one j z a b p q r s = go (dec_lt j z) (dec_lt z j)
        where
          go : Dec (j < z) → Dec (z < j) → j ≡ z
          go (yes x) y = absurd (last_order j z x b p q r)
          go (no x) (yes y) = absurd (last_order z j y a r s p)
          go (no x) (no y) = omega arith

      -- another clause has the head
      module _ (z : ℕ) (a : i < z) (b : z < n) (d : head_matches book f m (field book (first + z) 1) ≡ true) where
        pub same_next : next_same book first n i ≡ start_of book first n (i + 1) z
        same_next = start_is f m (i + 1) i e ∙ sym (start_is f m (i + 1) z d)

        pub not_the_last : is_last book first n i ≡ false
        not_the_last = last_no i (omega (arith, start_is f m (i + 1) i e, match_most f m (i + 1) n z (omega arith) b d))

      -- or none has
      module _ (d : n ≤ last_match book f m first n (i + 1)) where
        pub the_last : is_last book first n i ≡ true
        the_last = last_yes i (start_is f m (i + 1) i e ∙ none_matches f m (i + 1) (omega arith) d)

        pub none_other : (j : ℕ) → i < j → j < n → head_matches book f m (field book (first + j) 1) ≡ true → ⊥
        none_other j a b x = omega (arith, none_matches f m (i + 1) (omega arith) d, match_most f m (i + 1) n j (omega arith) b x)
