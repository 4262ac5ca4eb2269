-- Laws of the index of the question's own run: the code makes it, and it is kept with its words.
use mathlib.Core.Path.{◌≡◌, refl, sym, ◌∙◌, ap}
use mathlib.Core.Logic.{◌⊎◌, inl, inr}
use mathlib.Core.Bool.{true}
use mathlib.Core.List.{List}
use Prim.Native.Nat.{ℕ, ◌+◌, ◌-◌, ◌*◌, ◌/◌, ◌%◌, ◌≤◌, ◌<◌}
use native.Mathlib.Omega.{arith}
use native.Mathlib.Decide.{dec_lt, ℕ_discrete}
use borrow.Author.Tests.{lt-ltb, le-ltb}
use lib.ListN.{length, get_or, set, length-set}
use lib.Seq.{get_or-set_same, get_or-set_other}
use Rattle.std.proofs.Common.{take, drop, ◌++◌, replicate, length-drop, length-append}
use Rattle.std.proofs.lemmas.List.{length-take-le, length-replicate, get_or_append_left, get_or-append_right, get_or-take, get_or-replicate, get_or-drop}
use Rattle.book.specs.Records.{field}
use Rattle.words.specs.Frame.{Keeps}
use Rattle.words.proofs.StackLaws.{keeps_refl, keeps_trans, keeps_set}
use Rattle.index.specs.Runs.{head_matches}
use Rattle.index.specs.Index.{head_bucket, bucket_of, start_of, is_last, next_last, last_match, link_or, word_of, entry_of, Listed, Indexed, EmptyFrom, IndexedFrom}
use Rattle.index.proofs.BucketLaws.{matching_bucket}
use Rattle.index.proofs.SuchLaws.{such_none}
use Rattle.index.proofs.ListLaws.{start_bounds, last_bounds, last_found, list_bounds, list_here, list_other, list_past}
use Rattle.index.proofs.ListLaws.{word_last, word_not, link_small, start_here, word_keep, last_one, same_next, not_the_last, the_last, none_other}

-- THE WORD OF A CLAUSE
module _ (book : List ℕ) (first n : ℕ) where
  entry_here : (i : ℕ) → i < n → 1048576 * field book (first + i) 1 + i ≡ entry_of book first n i
  unfolding entry_of
  entry_here i h = rw (entry_of, lt-ltb i n h) refl

  entry_none : n ≡ entry_of book first n n
  unfolding entry_of
  entry_none = rw (entry_of, le-ltb n n (omega arith)) refl

  entry_number : n ≤ 1024 → (i : ℕ) → i ≤ n → entry_of book first n i % 2048 ≡ i
  entry_number m i h = go (dec_lt i n)
    where
      go : Dec (i < n) → entry_of book first n i % 2048 ≡ i
      go (yes l) = rw (← entry_here i l) (omega arith)
      go (no l) = let e : i ≡ n = omega arith in rw (e, ← entry_none) (omega arith)

  entry_clause : n ≤ 1024 → (i : ℕ) → i < n → entry_of book first n i / 1048576 ≡ field book (first + i) 1
  entry_clause m i h = rw (← entry_here i h) (omega arith)

-- EMPTYING: a part of the words is filled with n, and the rest stays
module _ (n at k : ℕ) (ws ys : List ℕ) (l : at + k ≤ length ws) (e : ys ≡ replicate k n) where
  abbrev filled : List ℕ
  filled = take at ws ++ (ys ++ drop k (drop at ws))

  before : length (take at ws) ≡ at
  before = length-take-le at ws (omega arith)

  within : length ys ≡ k
  within = rw e (length-replicate k n)

  filled_size : length filled ≡ length ws
  filled_size = simp (length-append, length-drop) (omega (arith, before, within, l))

  filled_below : (x : ℕ) → x < at → get_or filled x 0 ≡ get_or ws x 0
  filled_below x h = get_or_append_left (take at ws) (ys ++ drop k (drop at ws)) 0 x (omega (arith, before)) ∙ get_or-take at ws x 0 h

  filled_here : (x : ℕ) → x < k → get_or filled (at + x) 0 ≡ n
  filled_here x h =
      let z : at + x - at ≡ x = omega arith in
      get_or-append_right (take at ws) (ys ++ drop k (drop at ws)) at (at + x) 0 before (omega arith)
      ∙ rw z (get_or_append_left ys (drop k (drop at ws)) 0 x (omega (arith, within)) ∙ rw e (get_or-replicate k x n 0 h))

  filled_above : (x : ℕ) → at + k ≤ x → get_or filled x 0 ≡ get_or ws x 0
  filled_above x h =
      let z : at + (k + (x - at - k)) ≡ x = omega arith in
      get_or-append_right (take at ws) (ys ++ drop k (drop at ws)) at x 0 before (omega arith)
      ∙ get_or-append_right ys (drop k (drop at ws)) k (x - at) 0 within (omega arith)
      ∙ get_or-drop k (drop at ws) (x - at - k) 0 ∙ get_or-drop at ws (k + (x - at - k)) 0 ∙ rw z refl

pub emptied : (n : ℕ) (ws ys : List ℕ) → length ws ≡ 16384 → ys ≡ replicate (length (take 1024 (drop 4096 ws))) n → EmptyFrom n 1024 ws (take 4096 ws ++ (ys ++ drop 1024 (drop 4096 ws)))
emptied n ws ys l d =
    let long : length (take 1024 (drop 4096 ws)) ≡ 1024 = length-take-le 1024 (drop 4096 ws) (simp length-drop (omega (arith, l))) in
    let e : ys ≡ replicate 1024 n = rw long at d in
    let s = filled_size n 4096 1024 ws ys (omega (arith, l)) e in
    record {
      firsts = filled_here n 4096 1024 ws ys (omega (arith, l)) e;
      below = record { size = s; same = λ x a b. filled_below n 4096 1024 ws ys (omega (arith, l)) e x b };
      above = record { size = s; same = λ x a b. filled_above n 4096 1024 ws ys (omega (arith, l)) e x a };
    }

-- MAKING
pub made_none : (book : List ℕ) (first n : ℕ) (ws ws₁ : List ℕ) → EmptyFrom n 1024 ws ws₁ → IndexedFrom book first n n ws₁ ws₁
made_none book first n ws ws₁ E = record {
  firsts = λ b h. E.firsts b h ∙ entry_none book first n ∙ ap (entry_of book first n) (sym (such_none _ n n (omega arith)));
  nexts = λ j a b. absurd (omega arith);
  below = keeps_refl 0 4096 ws₁;
  between = keeps_refl 5120 (5120 + n) ws₁;
  above = keeps_refl (5120 + n) 16384 ws₁;
}

-- the words of the index, read as such
pub made_list : (book : List ℕ) (first n i : ℕ) (ws ws' : List ℕ) → n ≤ 1024 → i ≤ n → IndexedFrom book first n i ws ws' → Listed book first n i ws'
made_list book first n i ws ws' m a I = record {
  firsts = λ b h. ap (λ (x : ℕ). x % 2048) (I.firsts b h) ∙ entry_number book first n m _ (list_bounds book first n b i a).1;
  clauses = λ b h l. ap (λ (x : ℕ). x / 1048576) (I.firsts b h) ∙ entry_clause book first n m _ l;
  nexts = I.nexts;
}

-- from 0 on, the whole run is indexed
pub made_all : (book : List ℕ) (first n : ℕ) (ws ws' : List ℕ) → n ≤ 1024 → IndexedFrom book first n 0 ws ws' → Indexed book first n ws'
made_all book first n ws ws' m I = made_list book first n 0 ws ws' m (omega arith) I

-- ENTERING
module _ (book : List ℕ) (first n i f m z : ℕ) (ws : List ℕ) (l : length ws ≡ 16384) (most : n ≤ 1024) (h : i < n) (I : IndexedFrom book first n (i + 1) ws ws)
    (e : head_matches book f m (field book (first + i) 1) ≡ true) (ze : z ≡ last_match book f m first n (i + 1)) where
  -- with a clause after it that has its head
  module _ (zl : z < n) where
    found_head : (head_matches book f m (field book (first + z) 1) ≡ true) × (is_last book first n z ≡ true)
    found_head = rw ze (last_found book first n f m (i + 1) (omega arith) (omega (arith, ze, zl)))

    found_later : i < z
    found_later = omega (arith, ze, (last_bounds book first n f m (i + 1) (omega arith)).0)

    abbrev link : ℕ
    link = link_or n z (next_last book first n (bucket_of head_bucket book first z) (z + 1) (n - (z + 1)))

    found_word : get_or ws (5120 + z) 0 ≡ 4194304 * link + 2048 * start_of book first n (i + 1) z + n
    found_word = I.nexts z (omega (arith, found_later)) zl ∙ word_last book first n (i + 1) z found_head.1

    found_start : get_or ws (5120 + z) 0 / 2048 % 2048 ≡ start_of book first n (i + 1) z
    found_start = omega (arith, found_word, (start_bounds book first n (i + 1) z (omega arith)).1, most)

    moved_word : get_or ws (5120 + z) 0 - 2048 * (get_or ws (5120 + z) 0 / 2048 % 2048) + 2048 * i ≡ 4194304 * link + 2048 * i + n
    moved_word = omega (arith, found_word, (start_bounds book first n (i + 1) z (omega arith)).1, most)

    abbrev one : List ℕ
    one = set ws (5120 + z) (get_or ws (5120 + z) 0 - 2048 * (get_or ws (5120 + z) 0 / 2048 % 2048) + 2048 * i)

    abbrev two : List ℕ
    two = set one (5120 + i) (get_or ws (5120 + z) 0 / 2048 % 2048)

    same_firsts : (b : ℕ) → b < 1024 → get_or two (4096 + b) 0 ≡ entry_of book first n (next_last book first n b i (n - i))
    same_firsts b a =
        get_or-set_other one (5120 + i) (4096 + b) _ 0 (λ z. omega arith) ∙ get_or-set_other ws (5120 + z) (4096 + b) _ 0 (λ z. omega arith)
        ∙ I.firsts b a ∙ ap (entry_of book first n) (sym (list_past book first n b i h (not_the_last book first n f m i h e z found_later zl found_head.0)))

    moved_nexts : (j : ℕ) → i ≤ j → j < n → get_or two (5120 + j) 0 ≡ word_of book first n i j
    moved_nexts j u v = go (ℕ_discrete j i) (ℕ_discrete j z)
      where
        go : Dec (j ≡ i) → Dec (j ≡ z) → get_or two (5120 + j) 0 ≡ word_of book first n i j
        go (yes x) y =
            rw x (get_or-set_same one (5120 + i) _ 0 (simp length-set (omega (arith, l, most, h))) ∙ found_start
            ∙ sym (same_next book first n f m i h e z found_later zl found_head.0) ∙ sym (word_not book first n i i (not_the_last book first n f m i h e z found_later zl found_head.0)))
        go (no x) (yes y) =
            rw y (get_or-set_other one (5120 + i) (5120 + z) _ 0 (λ w. omega (arith, found_later, w)) ∙ get_or-set_same ws (5120 + z) _ 0 (omega (arith, l, most, zl)) ∙ moved_word
            ∙ ap (λ (k : ℕ). 4194304 * link + 2048 * k + n) (sym (start_here book first n f m i h e z found_head.0)) ∙ sym (word_last book first n i z found_head.1))
        go (no x) (no y) =
            get_or-set_other one (5120 + i) (5120 + j) _ 0 (λ w. x (omega (arith, w))) ∙ get_or-set_other ws (5120 + z) (5120 + j) _ 0 (λ w. y (omega (arith, w)))
            ∙ I.nexts j (omega arith) v ∙ word_keep book first n f m i h e j (λ p q. y (last_one book first n f m i h e j z v zl q p found_head.0 found_head.1))

    moved_outside : (lo hi : ℕ) → (hi ≤ 4096) ⊎ (5120 + n ≤ lo) ⊎ ((5120 ≤ lo) × (hi ≤ 5120 + i)) → Keeps lo hi ws two
    moved_outside lo hi (inl x) = keeps_trans (keeps_set lo hi ws (5120 + z) _ (inr (omega arith))) (keeps_set lo hi one (5120 + i) _ (inr (omega arith)))
    moved_outside lo hi (inr (inl x)) = keeps_trans (keeps_set lo hi ws (5120 + z) _ (inl (omega arith))) (keeps_set lo hi one (5120 + i) _ (inl (omega arith)))
    moved_outside lo hi (inr (inr x)) = keeps_trans (keeps_set lo hi ws (5120 + z) _ (inr (omega (arith, x.1, found_later)))) (keeps_set lo hi one (5120 + i) _ (inr x.1))

    pub entered_before : IndexedFrom book first n i ws two
    entered_before = record {
      firsts = same_firsts;
      nexts = moved_nexts;
      below = moved_outside 0 4096 (inl (omega arith));
      between = moved_outside 5120 (5120 + i) (inr (inr (omega arith, omega arith)));
      above = moved_outside (5120 + n) 16384 (inr (inl (omega arith)));
    }

  -- with a new head
  module _ (zn : n ≤ z) (b k v : ℕ) (be : b ≡ head_bucket f m) (bl : b < 1024) (ke : k ≡ link_or n i (get_or ws (4096 + b) 0 % 2048)) (ve : v ≡ field book (first + i) 1) where
    new_last : is_last book first n i ≡ true
    new_last = the_last book first n f m i h e (omega (arith, ze, zn))

    bucket_here : b ≡ bucket_of head_bucket book first i
    bucket_here = be ∙ sym (matching_bucket head_bucket book first f m i e)

    link_here : k ≡ link_or n i (next_last book first n (bucket_of head_bucket book first i) (i + 1) (n - (i + 1)))
    link_here =
        ke ∙ ap (link_or n i) (ap (λ (x : ℕ). x % 2048) (I.firsts b bl) ∙ entry_number book first n most _ (list_bounds book first n b (i + 1) (omega arith)).1
        ∙ ap (λ (x : ℕ). next_last book first n x (i + 1) (n - (i + 1))) bucket_here)

    abbrev three : List ℕ
    three = set ws (5120 + i) (4194304 * k + 2048 * i + n)

    abbrev four : List ℕ
    four = set three (4096 + b) (1048576 * v + i)

    new_firsts : (x : ℕ) → x < 1024 → get_or four (4096 + x) 0 ≡ entry_of book first n (next_last book first n x i (n - i))
    new_firsts x a = go (ℕ_discrete x b)
      where
        go : Dec (x ≡ b) → get_or four (4096 + x) 0 ≡ entry_of book first n (next_last book first n x i (n - i))
        go (yes y) =
            rw y (get_or-set_same three (4096 + b) _ 0 (simp length-set (omega (arith, l, bl))) ∙ ap (λ (w : ℕ). 1048576 * w + i) ve
            ∙ entry_here book first n i h ∙ ap (entry_of book first n) (sym (ap (λ (w : ℕ). next_last book first n w i (n - i)) bucket_here ∙ list_here book first n i h new_last)))
        go (no y) =
            get_or-set_other three (4096 + b) (4096 + x) _ 0 (λ w. y (omega (arith, w))) ∙ get_or-set_other ws (5120 + i) (4096 + x) _ 0 (λ w. omega arith)
            ∙ I.firsts x a ∙ ap (entry_of book first n) (sym (list_other book first n x i h (λ w. y (w ∙ sym bucket_here))))

    new_nexts : (j : ℕ) → i ≤ j → j < n → get_or four (5120 + j) 0 ≡ word_of book first n i j
    new_nexts j u w = get_or-set_other three (4096 + b) (5120 + j) _ 0 (λ q. omega arith) ∙ go (ℕ_discrete j i)
      where
        go : Dec (j ≡ i) → get_or three (5120 + j) 0 ≡ word_of book first n i j
        go (yes x) =
            rw x (get_or-set_same ws (5120 + i) _ 0 (omega (arith, l, most, h)) ∙ ap (λ (q : ℕ). 4194304 * q + 2048 * i + n) link_here
            ∙ ap (λ (q : ℕ). 4194304 * link_or n i (next_last book first n (bucket_of head_bucket book first i) (i + 1) (n - (i + 1))) + 2048 * q + n) (sym (start_here book first n f m i h e i e))
            ∙ sym (word_last book first n i i new_last))
        go (no x) =
            get_or-set_other ws (5120 + i) (5120 + j) _ 0 (λ q. x (omega (arith, q)))
            ∙ I.nexts j (omega arith) w ∙ word_keep book first n f m i h e j (λ p q. none_other book first n f m i h e (omega (arith, ze, zn)) j (omega arith) w q)

    new_outside : (lo hi : ℕ) → (hi ≤ 4096) ⊎ (5120 + n ≤ lo) ⊎ ((5120 ≤ lo) × (hi ≤ 5120 + i)) → Keeps lo hi ws four
    new_outside lo hi (inl x) = keeps_trans (keeps_set lo hi ws (5120 + i) _ (inr (omega arith))) (keeps_set lo hi three (4096 + b) _ (inr (omega arith)))
    new_outside lo hi (inr (inl x)) = keeps_trans (keeps_set lo hi ws (5120 + i) _ (inl (omega arith))) (keeps_set lo hi three (4096 + b) _ (inl (omega arith)))
    new_outside lo hi (inr (inr x)) = keeps_trans (keeps_set lo hi ws (5120 + i) _ (inr x.1)) (keeps_set lo hi three (4096 + b) _ (inl (omega (arith, x.0))))

    pub entered_new : IndexedFrom book first n i ws four
    entered_new = record {
      firsts = new_firsts;
      nexts = new_nexts;
      below = new_outside 0 4096 (inl (omega arith));
      between = new_outside 5120 (5120 + i) (inr (inr (omega arith, omega arith)));
      above = new_outside (5120 + n) 16384 (inr (inl (omega arith)));
    }

-- the index is kept with its words
pub indexed_same : (book : List ℕ) (first n : ℕ) {ws ws' : List ℕ} → n ≤ 1024 → Keeps 4096 6144 ws ws' → Indexed book first n ws → Indexed book first n ws'
indexed_same book first n m K I = record {
  firsts = λ b h. ap (λ (x : ℕ). x % 2048) (K.same (4096 + b) (omega arith) (omega arith)) ∙ I.firsts b h;
  clauses = λ b h l. ap (λ (x : ℕ). x / 1048576) (K.same (4096 + b) (omega arith) (omega arith)) ∙ I.clauses b h l;
  nexts = λ i a h. K.same (5120 + i) (omega arith) (omega arith) ∙ I.nexts i a h;
}
