-- Laws of runs: what stands in that of a suppose goal, and the search along any.
use mathlib.Core.Path.{◌≡◌, refl, sym, ◌∙◌}
use mathlib.Core.Bool.{Bool, true, false, ◌&&◌}
use mathlib.Core.List.{List}
use Prim.Native.Nat.{ℕ, ◌+◌, ◌-◌, ◌*◌, ◌≤◌, ◌<◌}
use native.Mathlib.Omega.{arith}
use borrow.Author.Tests.{eq-eqb, ne_eqb, lt-ltb, le-ltb}
use native.Mathlib.Decide.{dec_lt}
use lib.Dec.{eqb, ltb}
use Rattle.std.specs.Prelude.{Option, Some, None, IfSome}
use Rattle.std.specs.Bool.{then_some}
use Rattle.std.proofs.lemmas.Option.{none-some, same_Some}
use Rattle.book.specs.Records.{field, records}
use Rattle.book.specs.Kinds.{kind_at, kind_of, suppose_kind}
use Rattle.book.proofs.Accepted.{Formed}
use Rattle.book.proofs.Pointers.{kind_by, suppose_fields, clause_head}
use Rattle.book.proofs.Apart.{supposed_links}
use Rattle.book.proofs.Tests.{Tested, Tested.equal, Tested.other, tested}
use Rattle.words.specs.Readable.{Readable}
use Rattle.words.proofs.ReadLaws.{in_book}
use Rattle.index.specs.Runs.{head_matches, matches_at, next_match, found_below, ClauseRun}
use Rattle.index.proofs.SuchLaws.{such_none, such_here, such_on}

-- SUPPOSE GOALS

-- a record of number 7 is one
pub seven_kind : (book : List ℕ) (s : ℕ) → field book s 0 ≡ 7 → kind_at book s ≡ suppose_kind
unfolding kind_of
seven_kind book s e = kind_by book s 7 (eq-eqb (field book s 0) 7 e)

-- its run, and the run's bounds
pub suppose_run : (book : List ℕ) → Readable book → Formed book → (s : ℕ) → s < records book → kind_at book s ≡ suppose_kind
    → ClauseRun book (field book s 1) (field book s 2) × (0 < field book s 2) × (field book s 2 ≤ 64) × (field book s 1 + field book s 2 ≤ 4096)
suppose_run book R F s h k =
    let x = suppose_fields book F.fields s h k in (
      (λ i l.
          let z = supposed_links book F s i h k l in
          let u : field book (field book s 1 + i) 1 < records book = omega (arith, z.2) in
          (omega (arith, z.0), u, omega (arith, (clause_head book F (field book (field book s 1 + i) 1) u z.3).0))),
      x.0,
      x.1,
      omega (arith, x.2, (in_book book R s h).1),
    )

-- WHAT IS FOUND AMONG n
pub found_yes : (n j : ℕ) → j < n → Some j ≡ found_below n j
unfolding found_below
found_yes n j h = rw (found_below, lt-ltb j n h) refl

pub found_no : (n j : ℕ) → n ≤ j → None ≡ found_below n j
unfolding found_below
found_no n j h = rw (found_below, le-ltb j n h) refl

-- as the code says it
pub found_is : (n j k : ℕ) → k ≡ j → then_some (ltb k n) k ≡ found_below n j
found_is n j k e = rw e (go (dec_lt j n))
  where
    go : Dec (j < n) → then_some (ltb j n) j ≡ found_below n j
    go (yes l) = rw (lt-ltb j n l) (found_yes n j l)
    go (no l) = let h : n ≤ j = omega arith in rw (le-ltb j n h) (found_no n j h)

-- and back
pub found_some : (n j r : ℕ) → Some r ≡ found_below n j → (j < n) × (r ≡ j)
found_some n j r e = go (dec_lt j n)
  where
    go : Dec (j < n) → (j < n) × (r ≡ j)
    go (yes l) = (l, same_Some _ _ (e ∙ sym (found_yes n j l)))
    go (no l) = absurd (none-some r (found_no n j (omega arith) ∙ sym e))

pub found_none : (n j : ℕ) → None ≡ found_below n j → n ≤ j
found_none n j e = go (dec_lt j n)
  where
    go : Dec (j < n) → n ≤ j
    go (yes l) = absurd (none-some j (e ∙ sym (found_yes n j l)))
    go (no l) = omega arith

pub found_within : (n j k : ℕ) (o : Option ℕ) → o ≡ found_below n j → n ≤ k → IfSome o (λ x. x < k)
found_within n j k None e h = tt
found_within n j k (Some r) e h = let x = found_some n j r e in omega (arith, x.0, x.1)

-- THE CODE'S TEST OF A HEAD: two numbers in one are compared
pub heads_both : (book : List ℕ) (f m c h x : ℕ) → h ≡ field book c 4 → (x ≡ field book h 1 + 65536 * field book h 2) × (field book h 1 < 65536) → f < 65536
    → eqb x (f + 65536 * m) ≡ head_matches book f m c
unfolding head_matches
heads_both book f m c h x p q s = rw (head_matches, ← p) (go (tested f (field book h 1)) (tested m (field book h 2)))
  where
    go : {t u : Bool} → Tested f (field book h 1) t → Tested m (field book h 2) u → eqb x (f + 65536 * m) ≡ (t && u)
    go (equal e) (equal d) = eq-eqb x (f + 65536 * m) (omega (arith, q.0))
    go (equal e) (other d) = ne_eqb x (f + 65536 * m) (λ z. d (omega (arith, q.0, q.1)))
    go (other e) u = ne_eqb x (f + 65536 * m) (λ z. e (omega (arith, q.0, q.1)))

-- A TURN OF THE SEARCH
module _ (book : List ℕ) (f m first : ℕ) where
  pub next_none : (i n : ℕ) → n ≤ i → next_match book f m first i (n - i) ≡ i
  unfolding next_match
  next_none i n h = such_none (matches_at book f m first) i n h

  pub next_found : (i n c : ℕ) (t : Bool) → i < n → c ≡ field book (first + i) 1 → t ≡ head_matches book f m c → t ≡ true → next_match book f m first i (n - i) ≡ i
  unfolding next_match
  next_found i n c t h e p q = such_here (matches_at book f m first) i n h (rw (← e) (sym p ∙ q))

  pub next_on : (i n c : ℕ) (t : Bool) → i < n → c ≡ field book (first + i) 1 → t ≡ head_matches book f m c → t ≡ false
      → next_match book f m first i (n - i) ≡ next_match book f m first (i + 1) (n - (i + 1))
  unfolding next_match
  next_on i n c t h e p q = such_on (matches_at book f m first) i n h (rw (← e) (sym p ∙ q))
