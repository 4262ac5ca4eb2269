-- Test 6: no record is pointed at twice.
use mathlib.Core.Path.{◌≡◌, refl, ap, sym, ◌∙◌}
use mathlib.Core.Bool.{Bool, true, false}
use mathlib.Core.List.{List, [], ◌∷◌, ◌++◌}
use Prim.Native.Nat.{ℕ, zero, suc, ◌+◌, ◌≤◌, ◌<◌}
use native.Mathlib.Omega.{arith}
use lib.Dec.{eqb, ltb}
use borrow.Author.Tests.{ltb-true, ltb-false}
use Rattle.book.specs.Records.{record_at, field, records, last_record, members}
use Rattle.book.specs.Kinds.{Kind, link_kind, suppose_kind, clause_kind, kind_of, kind_at}
use Rattle.book.specs.Targets.{clause_link, each_of, targets_fit_as}
use Rattle.book.specs.Pointing.{pointers_as, pointers, all_pointers, times, once}
use Rattle.book.proofs.Tests.{and_true, eqb_says, Tested, equal, other, tested}
use Rattle.book.proofs.RecordLaws.{number0}
use Rattle.book.proofs.Accepted.{Formed, Accepted}
use Rattle.book.proofs.Pointers.{each_says, kind_by, link_falls, suppose_fields, aims, suppose_clauses}

-- HOW OFTEN

times_both : (x : ℕ) (l m : List ℕ) → times x (l ++ m) ≡ times x l + times x m
unfolding times
times_both x [] m = omega arith
times_both x (y ∷ l) m = go (times_both x l m) (eqb x y)
  where
    go : times x (l ++ m) ≡ times x l + times x m
        → (b : Bool) → elim b [ true ↦ suc (times x (l ++ m)) | false ↦ times x (l ++ m) ] ≡ elim b [ true ↦ suc (times x l) | false ↦ times x l ] + times x m
    go e true = omega arith
    go e false = e

times_head : (x y : ℕ) (l : List ℕ) → x ≡ y → 1 ≤ times x (y ∷ l)
unfolding times
times_head x y l e = go (eqb x y) (tested x y)
  where
    go : (b : Bool) → Tested x y b → 1 ≤ elim b [ true ↦ suc (times x l) | false ↦ times x l ]
    go true t = omega arith
    go false (other f) = absurd (f e)

times_tail : (x y : ℕ) (l : List ℕ) → times x l ≤ times x (y ∷ l)
unfolding times
times_tail x y l = go (eqb x y)
  where
    go : (b : Bool) → times x l ≤ elim b [ true ↦ suc (times x l) | false ↦ times x l ]
    go true = omega arith
    go false = omega arith

-- each record of a run is one of its members
times_members : (x first n : ℕ) → first ≤ x → x < first + n → 1 ≤ times x (members first n)
unfolding members
times_members x first zero h k = absurd (omega arith)
times_members x first (suc n) h k = go (λ a. times_members x (suc first) n a (omega arith)) (eqb x first) (tested x first)
  where
    go : (suc first ≤ x → 1 ≤ times x (members (suc first) n)) → (b : Bool) → Tested x first b → 1 ≤ times x (first ∷ members (suc first) n)
    go f true (equal e) = times_head x first _ e
    go f false (other e) = omega (arith, f (omega arith), times_tail x first (members (suc first) n))

-- what one record points at counts among all, and what two do counts twice
module _ (book : List ℕ) (x : ℕ) where
  abbrev times_at : ℕ → ℕ
  times_at a = times x (pointers (record_at book a))

  counts_one : (r n a : ℕ) → r ≤ a → a < r + n → times_at a ≤ times x (all_pointers book r n)
  unfolding all_pointers
  counts_one r zero a h k = absurd (omega arith)
  counts_one r (suc n) a h k = go (λ m. counts_one (suc r) n a m (omega arith)) (eqb r a) (tested r a)
    where
      both : times x (pointers (record_at book r) ++ all_pointers book (suc r) n) ≡ times_at r + times x (all_pointers book (suc r) n)
      both = times_both x (pointers (record_at book r)) (all_pointers book (suc r) n)

      go : (suc r ≤ a → times_at a ≤ times x (all_pointers book (suc r) n)) → (b : Bool) → Tested r a b
          → times_at a ≤ times x (pointers (record_at book r) ++ all_pointers book (suc r) n)
      go f true (equal e) = let q : times_at r ≡ times_at a = ap times_at e in omega (arith, both, q)
      go f false (other e) = omega (arith, both, f (omega arith))

  counts_two : (r n a b : ℕ) → r ≤ a → a < b → b < r + n → times_at a + times_at b ≤ times x (all_pointers book r n)
  unfolding all_pointers
  counts_two r zero a b h l k = absurd (omega arith)
  counts_two r (suc n) a b h l k = go (λ m. counts_two (suc r) n a b m l (omega arith)) (eqb r a) (tested r a)
    where
      both : times x (pointers (record_at book r) ++ all_pointers book (suc r) n) ≡ times_at r + times x (all_pointers book (suc r) n)
      both = times_both x (pointers (record_at book r)) (all_pointers book (suc r) n)

      go : (suc r ≤ a → times_at a + times_at b ≤ times x (all_pointers book (suc r) n)) → (t : Bool) → Tested r a t
          → times_at a + times_at b ≤ times x (pointers (record_at book r) ++ all_pointers book (suc r) n)
      go f true (equal e) = let q : times_at r ≡ times_at a = ap times_at e in omega (arith, both, q, counts_one (suc r) n b (omega arith) (omega arith))
      go f false (other e) = omega (arith, both, f (omega arith))

-- NOT TWICE

pub not_twice : (book : List ℕ) → Accepted book → (a b r : ℕ) → a < records book → b < records book → (a ≡ b → ⊥)
    → 1 ≤ times r (pointers (record_at book a)) → 1 ≤ times r (pointers (record_at book b)) → r < last_record book → ⊥
unfolding once
not_twice book A a b r h k d p q l = go (ltb a b) refl
  where
    all : times r (all_pointers book 0 (records book)) ≡ 1
    all = eqb_says (times r (all_pointers book 0 (records book))) 1 (A.tree r l)

    go : (t : Bool) → ltb a b ≡ t → ⊥
    go true e = let u = ltb-true a b e in omega (arith, all, p, q, counts_two book r 0 (records book) a b (omega arith) u (omega arith))
    go false e = let u = ltb-false a b e in omega (arith, all, p, q, counts_two book r 0 (records book) b a (omega arith) (omega (arith, u, d)) (omega arith))

-- two records that point at the same one are one
points_apart : (book : List ℕ) → Accepted book → (a b r : ℕ) → a < records book → b < records book
    → 1 ≤ times r (pointers (record_at book a)) → 1 ≤ times r (pointers (record_at book b)) → r < last_record book → a ≡ b
points_apart book A a b r h k p q l = go (eqb a b) (tested a b)
  where
    go : (t : Bool) → Tested a b t → a ≡ b
    go true (equal e) = e
    go false (other d) = absurd (not_twice book A a b r h k d p q l)

-- WHAT A SUPPOSE GOAL AND A LINK POINT AT

points_as : (book : List ℕ) (r : ℕ) (k : Kind) → kind_at book r ≡ k → pointers (record_at book r) ≡ pointers_as k (record_at book r)
unfolding pointers kind_at
points_as book r k e = ap (λ (x : ℕ). pointers_as (kind_of x) (record_at book r)) (number0 book r) ∙ ap (λ (x : Kind). pointers_as x (record_at book r)) e

suppose_points : (book : List ℕ) (s i : ℕ) → kind_at book s ≡ suppose_kind → i < field book s 2 → 1 ≤ times (field book s 1 + i) (pointers (record_at book s))
unfolding pointers_as record_at field
suppose_points book s i e h =
    let x : pointers (record_at book s) ≡ members (field book s 1) (field book s 2) ++ (field book s 3 ∷ []) = points_as book s suppose_kind e in
    rw x (omega (
      arith,
      times_both (field book s 1 + i) (members (field book s 1) (field book s 2)) (field book s 3 ∷ []),
      times_members (field book s 1 + i) (field book s 1) (field book s 2) (omega arith) (omega arith),
    ))

link_points : (book : List ℕ) (l : ℕ) → kind_at book l ≡ link_kind → 1 ≤ times (field book l 1) (pointers (record_at book l))
unfolding pointers_as record_at field
link_points book l e =
    let x : pointers (record_at book l) ≡ field book l 1 ∷ [] = points_as book l link_kind e in rw x (times_head (field book l 1) (field book l 1) [] refl)

pub links_apart : (book : List ℕ) → Accepted book → (s t i j : ℕ) → s < records book → t < records book → kind_at book s ≡ suppose_kind → kind_at book t ≡ suppose_kind
    → i < field book s 2 → j < field book t 2 → field book s 1 + i ≡ field book t 1 + j → s ≡ t
unfolding last_record
links_apart book A s t i j h k e f a b q =
    let x = suppose_fields book A.formed.fields s h e in
    points_apart book A s t (field book s 1 + i) h k (suppose_points book s i e a) (rw q (suppose_points book t j f b)) (omega (arith, x.2))

pub targets_apart : (book : List ℕ) → Accepted book → (l k : ℕ) → l < records book → k < records book → kind_at book l ≡ link_kind → kind_at book k ≡ link_kind
    → field book l 1 ≡ field book k 1 → l ≡ k
unfolding last_record
targets_apart book A l k h j e f q =
    points_apart book A l k (field book l 1) h j (link_points book l e) (rw q (link_points book k f)) (omega (arith, link_falls book A.formed.fields l h e))

link_there : (book : List ℕ) (l : ℕ) → clause_link book l ≡ true → kind_at book l ≡ link_kind
unfolding clause_link kind_of
link_there book l e = kind_by book l 3 (and_true (eqb (field book l 0) 3) _ e).0

-- what stands in the run of a suppose goal: links, and they lead to clauses
pub supposed_links : (book : List ℕ) → Formed book → (s i : ℕ) → s < records book → kind_at book s ≡ suppose_kind → i < field book s 2
    → (field book s 1 + i < s) × (kind_at book (field book s 1 + i) ≡ link_kind) × (field book (field book s 1 + i) 1 < s)
    × (kind_at book (field book (field book s 1 + i) 1) ≡ clause_kind)
unfolding targets_fit_as record_at field
supposed_links book F s i h e a =
    let x = suppose_fields book F.fields s h e in
    let y = and_true (each_of (clause_link book) (field book s 1) (field book s 2)) _ (aims book F s h suppose_kind e) in
    let z = each_says (clause_link book) (field book s 1) (field book s 2) y.0 (field book s 1 + i) (omega arith) (omega arith) in
    let u = suppose_clauses book F s h e (field book s 1 + i) (omega arith) (omega arith) in
    (omega (arith, x.2), link_there book (field book s 1 + i) z, u.0, u.1)

pub link_not_clause : (book : List ℕ) (l c : ℕ) → kind_at book l ≡ link_kind → kind_at book c ≡ clause_kind → l ≡ c → ⊥
link_not_clause book l c e f q = let x : link_kind ≡ clause_kind = sym e ∙ ap (kind_at book) q ∙ f in let z : ◌≡◌ {A = ℕ} 0 1 = cc in absurd (omega arith)
