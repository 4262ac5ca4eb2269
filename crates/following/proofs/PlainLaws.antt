-- What the code finds is a plain rule.
use mathlib.Core.Path.{◌≡◌, refl, sym, ◌∙◌, ap}
use mathlib.Core.Logic.{inl, inr}
use mathlib.Core.Bool.{Bool, true, false, ◌&&◌}
use mathlib.Core.List.{List, [], ◌∷◌}
use Prim.Native.Nat.{ℕ, zero, suc, ◌+◌, ◌-◌, ◌≤◌, ◌<◌}
use native.Mathlib.Omega.{arith}
use native.Mathlib.Nat.{sub-zero}
use borrow.Author.Tests.{eq-eqb, ne_eqb, eqb-true, lt-ltb, le-ltb, ltb-true, le-leb, lt-leb, leb-true}
use lib.Dec.{eqb, ltb}
use Rattle.std.specs.Prelude.{Option, Some, None, is_some}
use Rattle.std.proofs.lemmas.Option.{none-some, same_Some}
use Rattle.book.specs.Records.{field, records}
use Rattle.book.specs.Kinds.{kind_at, kind_of}
use Rattle.book.specs.Decode.{clauses_of}
use Rattle.book.proofs.Tests.{and_true}
use Rattle.book.proofs.Accepted.{Formed}
use Rattle.book.proofs.Pointers.{clause_body}
use Rattle.machine.specs.Machine.{Force, candidates, added}
use Rattle.words.specs.Body.{body_of}
use Rattle.index.specs.Runs.{head_matches, next_match, found_below}
use Rattle.index.proofs.RunLaws.{found_some, found_none}
use Rattle.branch.specs.State.{OwnReady, own_run}
use Rattle.seeking.proofs.SeekLaws.{force_at, FoundAt, found_run}
use Rattle.following.specs.declared.Followed.{Followed}
use Rattle.following.specs.Plain.{plain_clause, first_own, next_own, only_own, plain_body, follow_on, PlainClause, own_program, Plain, Chain, Chain.chain_none, Chain.chain_more}

module _ (book : List ℕ) (F : Formed book) (O : OwnReady book 0) (first n : ℕ) (fe : first ≡ (own_run book).first) (ne : n ≡ (own_run book).count) where
  -- the links and the clauses are in the book
  pub link_in : (i : ℕ) → i < n → (first + i < records book) × (field book (first + i) 1 < records book)
  link_in i h = let x = O.run i (omega arith) in (omega (arith, x.0), rw fe x.1)

  module _ (f : ℕ) where
    from : (k j : ℕ) → k + j ≤ n → FoundAt book F f 0 first 0 [] k j (next_match book f 0 first k j)
    from k j l = found_run book F f 0 first 0 [] k j (λ i a b. let h : i < (own_run book).count = omega arith in rw fe ((O.run i h).1, O.kinds i h))

    module _ (i : ℕ) (ie : i ≡ next_match book f 0 first 0 n) (h : i < n) where
      found : FoundAt book F f 0 first 0 [] 0 n i
      found = rw ie (from 0 n (omega arith))

      pub matches_here : head_matches book f 0 (field book (first + i) 1) ≡ true
      matches_here = go found
        where
          go : FoundAt book F f 0 first 0 [] 0 n i → head_matches book f 0 (field book (first + i) 1) ≡ true
          go (inl x) = absurd (omega (arith, x.0))
          go (inr x) = x.2

      module _ (j : ℕ) (je : j ≡ next_match book f 0 first (i + 1) (n - (i + 1))) (l : n ≤ j) where
        after_is : j ≡ next_match book f 0 first (suc i) (n - suc i)
        after_is = let z : i + 1 ≡ suc i = omega arith in je ∙ ap (λ (k : ℕ). next_match book f 0 first k (n - k)) z

        none_after : candidates f 0 (added (clauses_of book (first + suc i) (n - suc i)) 0 []) ≡ []
        unfolding candidates
        none_after = go (rw after_is (from (suc i) (n - suc i) (omega arith)))
          where
            go : FoundAt book F f 0 first 0 [] (suc i) (n - suc i) j → candidates f 0 (added (clauses_of book (first + suc i) (n - suc i)) 0 []) ≡ []
            go (inl x) = x.1
            go (inr x) = absurd (omega (arith, x.1))

        pub only_one : candidates f 0 (own_program book) ≡ force_at book (own_run book).first 0 i ∷ []
        only_one = go found
          where
            go : FoundAt book F f 0 first 0 [] 0 n i → candidates f 0 (own_program book) ≡ force_at book (own_run book).first 0 i ∷ []
            go (inl x) = absurd (omega (arith, x.0))
            go (inr x) = let z : 0 + n - suc i ≡ n - suc i = omega arith in rw (sub-zero (own_run book).count, ← fe, ← ne) ((rw z at x.3) ∙ ap (λ (cs : List Force). force_at book first 0 i ∷ cs) none_after)

-- WHAT THE INDEX FINDS
pub found_is : (n j i : ℕ) (r : Option ℕ) → r ≡ found_below n j → r ≡ Some i → (i ≡ j) × (i < n)
found_is n j i r e h = let x = found_some n j i (sym h ∙ e) in (x.1, omega (arith, x.0, x.1))

pub found_one : (n j : ℕ) (r : Option ℕ) → r ≡ found_below n j → is_some r ≡ true → j < n
found_one n j None e h = absurd (cc)
found_one n j (Some i) e h = (found_some n j i e).0

pub found_no_one : (n j : ℕ) (r : Option ℕ) → r ≡ found_below n j → is_some r ≡ false → n ≤ j
found_no_one n j None e h = found_none n j e
found_no_one n j (Some i) e h = absurd (cc)

-- THE BODY OF THE PLAIN RULE, as the code finds it
module _ (book : List ℕ) (c : ℕ) where
  pub clause_variables : (field book c 1 ≡ 0 → ⊥) → None ≡ plain_clause book c
  unfolding plain_clause
  clause_variables h = rw (plain_clause, ne_eqb (field book c 1) 0 h) refl

  pub clause_bare : field book c 1 ≡ 0 → body_of book c ≡ plain_clause book c
  unfolding plain_clause
  clause_bare e = rw (plain_clause, eq-eqb (field book c 1) 0 e) refl

module _ (book : List ℕ) (g : ℕ) where
  pub not_atom : eqb (field book g 0) 4 ≡ false → None ≡ plain_body book g
  unfolding plain_body
  not_atom h = rw (plain_body, h) refl

  module _ (kind : eqb (field book g 0) 4 ≡ true) where
    pub not_bare : (field book g 2 ≡ 0 → ⊥) → None ≡ plain_body book g
    unfolding plain_body
    not_bare h = rw (plain_body, kind, ne_eqb (field book g 2) 0 h) refl

    module _ (bare : field book g 2 ≡ 0) (first n : ℕ) (fe : first ≡ (own_run book).first) (ne : n ≡ (own_run book).count) (f : ℕ) (fg : f ≡ field book g 1)
        (i : ℕ) (ie : i ≡ next_match book f 0 first 0 n) where
      first_own_lem : first_own book (field book g 1) ≡ i
      first_own_lem = sym (ie ∙ rw (fe, ne, fg) refl)

      count_own : (own_run book).count ≡ n
      count_own = sym ne

      pub none_own : n ≤ i → None ≡ plain_body book g
      unfolding plain_body only_own
      none_own h = rw (plain_body, kind, eq-eqb (field book g 2) 0 bare, first_own_lem, count_own, le-ltb i n h) refl

      module _ (h : i < n) (j : ℕ) (je : j ≡ next_match book f 0 first (i + 1) (n - (i + 1))) where
        next_own_lem : next_own book (field book g 1) i ≡ j
        next_own_lem = sym (je ∙ rw (fe, ne, fg) refl)

        pub two_own : j < n → None ≡ plain_body book g
        unfolding plain_body only_own
        two_own l = rw (plain_body, kind, eq-eqb (field book g 2) 0 bare, first_own_lem, next_own_lem, count_own, lt-ltb i n h, lt-leb n j l) refl

        just_one : n ≤ j → (eqb (field book g 0) 4 && (eqb (field book g 2) 0 && only_own book (field book g 1))) ≡ true
        unfolding only_own
        just_one l = rw (kind, eq-eqb (field book g 2) 0 bare, only_own, first_own_lem, next_own_lem, count_own, lt-ltb i n h, le-leb n j l) refl

        pub one_own : n ≤ j → plain_clause book (field book (first + i) 1) ≡ plain_body book g
        unfolding plain_body
        one_own l =
            let z : first + i ≡ (own_run book).first + first_own book (field book g 1) = rw (first_own_lem, fe) refl in
            ap (λ (k : ℕ). plain_clause book (field book k 1)) z ∙ rw (plain_body, just_one l) refl

-- WHAT IT MEANS
clause_means : (book : List ℕ) (c b : ℕ) → plain_clause book c ≡ Some b → PlainClause book c b
unfolding plain_clause
clause_means book c b e = go (eqb (field book c 1) 0 && eqb (field book c 5) 1) refl e
  where
    go : (t : Bool) → (eqb (field book c 1) 0 && eqb (field book c 5) 1) ≡ t → elim t [ true ↦ Some (field book c 6) | false ↦ None ] ≡ Some b → PlainClause book c b
    go true z d = let x = and_true (eqb (field book c 1) 0) _ z in record { bare = eqb-true _ _ x.0; some = eqb-true _ _ x.1; body = same_Some _ _ d }
    go false z d = absurd (none-some b d)

module _ (book : List ℕ) (F : Formed book) (O : OwnReady book 0) (g b : ℕ) (inside : g < records book) where
  abbrev f : ℕ
  f = field book g 1

  pub plain_means : plain_body book g ≡ Some b → Plain book g b
  unfolding plain_body only_own kind_at kind_of
  plain_means e = go (eqb (field book g 0) 4 && (eqb (field book g 2) 0 && only_own book f)) refl e
    where
      go : (t : Bool) → (eqb (field book g 0) 4 && (eqb (field book g 2) 0 && only_own book f)) ≡ t
          → elim t [ true ↦ plain_clause book (field book ((own_run book).first + first_own book f) 1) | false ↦ None ] ≡ Some b → Plain book g b
      go false z d = absurd (none-some b d)
      go true z d =
          let x = and_true (eqb (field book g 0) 4) _ z in
          let y = and_true (eqb (field book g 2) 0) _ x.1 in
          let w = and_true (ltb (first_own book f) (own_run book).count) _ y.1 in
          let k : field book g 0 ≡ 4 = eqb-true _ _ x.0 in
          record {
            i = first_own book f;
            inside = inside;
            kind = rw (kind_at, k) refl;
            bare = eqb-true _ _ y.0;
            below = ltb-true _ _ w.0;
            only = only_one book F O (own_run book).first (own_run book).count refl refl f (first_own book f) refl (ltb-true _ _ w.0) (next_own book f (first_own book f)) refl (leb-true _ _ w.1);
            clause = clause_means book (field book ((own_run book).first + first_own book f) 1) b d;
          }

-- the body of a plain rule is a goal of the book
module _ (book : List ℕ) (F : Formed book) (O : OwnReady book 0) (g b : ℕ) (P : Plain book g b) where
  abbrev rule : ℕ
  rule = field book ((own_run book).first + P.i) 1

  pub body_in : b < records book
  body_in =
      let x = clause_body book F rule (O.run P.i P.below).1 (O.kinds P.i P.below) P.clause.some in
      omega (arith, x.0, P.clause.body, (O.run P.i P.below).1)

-- THE CHAIN that is followed
module _ (book : List ℕ) (F : Formed book) (O : OwnReady book 0) (start : ℕ) where
  abbrev Leads : ℕ → ℕ → Followed → Type 0
  Leads n more p = Chain book start p.goal p.rules × (p.rules ≤ n + more) × (p.goal < records book)

  leads_on : (more g n : ℕ) → g < records book → Chain book start g n → Leads n more (follow_on book g n more)
  unfolding follow_on
  leads_on zero g n h C = (C, omega arith, h)
  leads_on (suc more) g n h C = go (plain_body book g) refl (λ b l D. leads_on more b (suc n) l D)
    where
      go : (r : Option ℕ) → plain_body book g ≡ r → ((b : ℕ) → b < records book → Chain book start b (suc n) → Leads (suc n) more (follow_on book b (suc n) more))
          → Leads n (suc more) (elim r [ None ↦ record { goal = g; rules = n } | Some b ↦ follow_on book b (suc n) more ])
      go None e rest = (C, omega arith, h)
      go (Some b) e rest =
          let P = plain_means book F O g b h e in
          let x = rest b (body_in book F O g b P) (chain_more {n = suc n} C P refl) in (x.0, omega (arith, x.1), x.2)

  pub leads : (most : ℕ) (p : Followed) → start < records book → p ≡ follow_on book start 0 most → Chain book start p.goal p.rules × (p.rules ≤ most) × (p.goal < records book)
  leads most p h e = rw e (let x = leads_on most start 0 h (chain_none {n = 0} refl refl) in (x.0, omega (arith, x.1), x.2))

-- THE LOOP: the code's next goal
module _ (book : List ℕ) where
  module _ (g n most : ℕ) where
    pub loop_end : (r : ℕ) → r ≡ most → n ≡ most → record { goal = g; rules = r } ≡ follow_on book g n (most - n)
    unfolding follow_on
    loop_end r d e = let z : most - n ≡ 0 = omega arith in rw (z, follow_on, d, e) refl

    pub loop_none : plain_body book g ≡ None → n < most → record { goal = g; rules = n } ≡ follow_on book g n (most - n)
    unfolding follow_on
    loop_none e h = let z : most - n ≡ suc (most - (n + 1)) = omega arith in rw (z, follow_on, e) refl

    pub loop_one : (b : ℕ) → plain_body book g ≡ Some b → n < most → follow_on book b (n + 1) (most - (n + 1)) ≡ follow_on book g n (most - n)
    unfolding follow_on
    loop_one b e h =
        let z : most - n ≡ suc (most - (n + 1)) = omega arith in
        let x : n + 1 ≡ suc n = omega arith in
        rw (z, follow_on, e, x) refl

pub loop_in : (book : List ℕ) (F : Formed book) (O : OwnReady book 0) (g b : ℕ) → g < records book → plain_body book g ≡ Some b → b < records book
loop_in book F O g b h e = body_in book F O g b (plain_means book F O g b h e)
