-- Laws of the search for a head in the index of the question's own run.
use mathlib.Core.Path.{◌≡◌, refl, sym, ◌∙◌, ap}
use mathlib.Core.Bool.{true, false}
use mathlib.Core.List.{List}
use Prim.Native.Nat.{ℕ, ◌+◌, ◌-◌, ◌/◌, ◌%◌, ◌≤◌, ◌<◌}
use native.Mathlib.Omega.{arith}
use native.Mathlib.Decide.{dec_lt}
use lib.ListN.{get_or}
use Rattle.book.specs.Records.{field}
use Rattle.std.specs.Prelude.{Some, None}
use Rattle.index.specs.Runs.{head_matches, next_match, found_below}
use Rattle.index.proofs.RunLaws.{found_yes, found_no, found_some, found_none}
use Rattle.index.specs.Index.{head_bucket, bucket_of, is_last, next_last, last_match, link_or, Listed, Indexed}
use Rattle.index.proofs.ListLaws.{start_is, match_most, last_found, last_none, last_here, last_past, none_matches, list_skips, list_bounds, list_found}
use Rattle.index.proofs.ListLaws.{link_some, link_none, word_link, word_start, word_same}

-- THE SEARCH FOR A HEAD, along its bucket's list

-- number z stands in the list, or is n, and the last clause with the head is not before it
pub record OnList (book : List ℕ) (first n f m i z : ℕ) : Type 0 where
  pub lower : i ≤ z
  pub within : z ≤ n
  pub node : z < n → (bucket_of head_bucket book first z ≡ head_bucket f m) × (is_last book first n z ≡ true)
  pub rest : last_match book f m first n z ≡ last_match book f m first n i

module _ (book : List ℕ) (first n f m i : ℕ) where
  -- wherever the list goes on
  on_list : (k z : ℕ) → i ≤ k → k ≤ n → z ≡ next_last book first n (head_bucket f m) k (n - k) → last_match book f m first n k ≡ last_match book f m first n i → OnList book first n f m i z
  on_list k z a h e d =
      let x = list_bounds book first n (head_bucket f m) k h in record {
        lower = omega (arith, e, x.0);
        within = omega (arith, e, x.1);
        node = λ l. rw e (list_found book first n (head_bucket f m) k h (omega (arith, e, l)));
        rest = rw e (list_skips book first n f m k h) ∙ d;
      }

  pub list_here_found : (z c : ℕ) (t : _) → OnList book first n f m i z → z < n → c ≡ field book (first + z) 1 → t ≡ head_matches book f m c → t ≡ true → Some z ≡ found_below n (last_match book f m first n i)
  list_here_found z c t O h e p q =
      let y : head_matches book f m (field book (first + z) 1) ≡ true = rw (← e) (sym p ∙ q) in rw (← O.rest, last_here book first n f m z h y (O.node h).1) (found_yes n z h)

  pub list_done : (z : ℕ) → OnList book first n f m i z → n ≤ z → None ≡ found_below n (last_match book f m first n i)
  list_done z O h = found_no n _ (omega (arith, last_none book first n f m z h, O.rest, h))

  module _ (ws : List ℕ) (most : n ≤ 1024) (a : i ≤ n) (L : Listed book first n i ws) where
    pub list_begins : (b : ℕ) → b < 1024 → b ≡ head_bucket f m → OnList book first n f m i (get_or ws (4096 + b) 0 % 2048)
    list_begins b h e = on_list i _ (omega arith) a (L.firsts b h ∙ ap (λ (x : ℕ). next_last book first n x i (n - i)) e) refl

    module _ (z : ℕ) (O : OnList book first n f m i z) (h : z < n) where
      abbrev N : ℕ
      N = next_last book first n (head_bucket f m) (z + 1) (n - (z + 1))

      link_is : get_or ws (5120 + z) 0 / 4194304 ≡ link_or n z N
      link_is =
          ap (λ (x : ℕ). x / 4194304) (L.nexts z O.lower h) ∙ word_link book first n most i z a h (O.node h).1
          ∙ ap (λ (x : ℕ). link_or n z (next_last book first n x (z + 1) (n - (z + 1)))) (O.node h).0

      module _ (c : ℕ) (t : _) (e : c ≡ field book (first + z) 1) (p : t ≡ head_matches book f m c) (q : t ≡ false) where
        passed : last_match book f m first n (z + 1) ≡ last_match book f m first n i
        passed = let y : head_matches book f m (field book (first + z) 1) ≡ false = rw (← e) (sym p ∙ q) in sym (last_past book first n f m z h y) ∙ O.rest

        after : OnList book first n f m i N
        after = on_list (z + 1) N (omega (arith, O.lower)) (omega arith) refl passed

        pub list_ends : get_or ws (5120 + z) 0 / 4194304 ≡ z → None ≡ found_below n (last_match book f m first n i)
        list_ends d = list_done N after (go (dec_lt N n))
          where
            go : Dec (N < n) → n ≤ N
            go (yes x) = absurd (omega (arith, link_is, link_some n z N x, (list_bounds book first n (head_bucket f m) (z + 1) (omega arith)).0))
            go (no x) = omega arith

        pub list_goes_on : (get_or ws (5120 + z) 0 / 4194304 ≡ z → ⊥) → (z < get_or ws (5120 + z) 0 / 4194304) × OnList book first n f m i (get_or ws (5120 + z) 0 / 4194304)
        list_goes_on d = go (dec_lt N n)
          where
            go : Dec (N < n) → (z < get_or ws (5120 + z) 0 / 4194304) × OnList book first n f m i (get_or ws (5120 + z) 0 / 4194304)
            go (yes x) =
                let y : get_or ws (5120 + z) 0 / 4194304 ≡ N = link_is ∙ link_some n z N x in
                (omega (arith, y, (list_bounds book first n (head_bucket f m) (z + 1) (omega arith)).0), rw y after)
            go (no x) = absurd (d (link_is ∙ link_none n z N (omega arith)))

-- WHAT IS FOUND
module _ (book : List ℕ) (first n : ℕ) (ws : List ℕ) (most : n ≤ 1024) (I : Indexed book first n ws) (f m : ℕ) where
  start_found : (z : ℕ) → z ≡ last_match book f m first n 0 → z < n → get_or ws (5120 + z) 0 / 2048 % 2048 ≡ next_match book f m first 0 n
  start_found z e h =
      let x = rw (← e) at (last_found book first n f m 0 (omega arith)) in
      let w : n - 0 ≡ n = omega arith in
      ap (λ (y : ℕ). y / 2048 % 2048) (I.nexts z (omega arith) h) ∙ word_start book first n most 0 z (omega arith) h (x h).1 ∙ start_is book first n f m 0 z (x h).0 ∙ rw w refl

  pub start_below : (z s : ℕ) → Some z ≡ found_below n (last_match book f m first n 0) → s ≡ get_or ws (5120 + z) 0 / 2048 % 2048 → Some s ≡ found_below n (next_match book f m first 0 n)
  start_below z s e d =
      let x = found_some _ _ _ e in
      let l : z < n = omega (arith, x.0, x.1) in
      let b = match_most book first f m 0 n z (omega arith) l (rw (← x.1) at (last_found book first n f m 0 (omega arith) x.0)).0 in
      let w : n - 0 ≡ n = omega arith in
      rw (d, start_found z x.1 l) (found_yes n _ (omega (arith, rw w at b, l)))

  pub none_below : None ≡ found_below n (last_match book f m first n 0) → None ≡ found_below n (next_match book f m first 0 n)
  none_below e = let w : n - 0 ≡ n = omega arith in found_no n _ (omega (arith, rw w at (none_matches book first n f m 0 (omega arith) (found_none _ _ e))))

  pub same_found : (i : ℕ) → i < n → head_matches book f m (field book (first + i) 1) ≡ true → get_or ws (5120 + i) 0 % 2048 ≡ next_match book f m first (i + 1) (n - (i + 1))
  same_found i h e = ap (λ (y : ℕ). y % 2048) (I.nexts i (omega arith) h) ∙ word_same book first n most 0 i (omega arith) h ∙ start_is book first n f m (i + 1) i e

-- the record of the first clause of a bucket's list
pub first_record : (book : List ℕ) (first n : ℕ) (ws : List ℕ) → Indexed book first n ws → (b : ℕ) → b < 1024 → (i : ℕ) → i < n → get_or ws (4096 + b) 0 % 2048 ≡ i
    → get_or ws (4096 + b) 0 / 1048576 ≡ field book (first + i) 1
first_record book first n ws I b c i h e =
    let d : next_last book first n b 0 (n - 0) ≡ i = sym (I.firsts b c) ∙ e in
    I.clauses b c (rw d h) ∙ ap (λ (x : ℕ). field book (first + x) 1) d
