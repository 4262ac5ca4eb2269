-- The search in the question's own run: what it finds.
use mathlib.Core.Path.{◌≡◌, refl, sym, ◌∙◌, ap}
use mathlib.Core.Logic.{◌⊎◌, inl, inr}
use mathlib.Core.Bool.{Bool, true, false}
use mathlib.Core.List.{List, [], ◌∷◌}
use Prim.Native.Nat.{ℕ, suc, ◌+◌, ◌-◌, ◌≤◌, ◌<◌}
use native.Mathlib.Omega.{arith}
use native.Mathlib.Decide.{dec_lt}
use Rattle.std.specs.Prelude.{Option, Some, None}
use lib.ListN.{length}
use Rattle.book.specs.Records.{field, records, last_record}
use Rattle.book.proofs.Accepted.{Formed}
use Rattle.machine.specs.Machine.{Force, candidates}
use Rattle.words.specs.Readable.{Readable}
use Rattle.branch.specs.State.{OwnReady, Run, rest_of, own_run, IsRest, IsRest.own_rest, IsRest.put_rest}
use Rattle.index.specs.Runs.{head_matches, next_match, found_below}
use Rattle.index.proofs.RunLaws.{found_yes, found_no}
use Rattle.seeking.specs.Seeking.{OwnMatches, own_place, own_candidate, IsCandidate, Sought, Sought.sought, Sought.no_more}
use Rattle.seeking.proofs.SeekLaws.{force_at, ClauseKinds, one_candidate, none_here, some_here, rest_begins}

-- a place of the question's own run
pub own_at : {book ws : List ℕ} {made top q k : ℕ} {rest : List Force} → q ≡ 0 → IsRest book ws made top q k rest
    → (rest ≡ rest_of book (own_run book) k []) × (k ≤ (own_run book).count) × (field book (last_record book) 4 ≤ made)
own_at h (own_rest e m u) = (refl, m, u)
own_at h (put_rest a c d e f g i j m r) = absurd (omega arith)

-- THE QUESTION'S OWN RUN
-- what is found in it is the place of a clause of it
module _ (book : List ℕ) (f m k last first n : ℕ) (r : Option ℕ) (le : last ≡ last_record book) (fe : first ≡ field book last 1) (ne : n ≡ field book last 2)
    (e : r ≡ found_below n (next_match book f m first k (n - k))) where
  own_is : own_place r ≡ own_candidate book f m k
  unfolding own_candidate
  own_is = ap own_place (e ∙ rw (fe, ne, le) refl)

  pub own_yes : (i : ℕ) → r ≡ Some i → Some (record { program = 0; clause = i }) ≡ own_candidate book f m k
  own_yes i h = ap own_place (sym h) ∙ own_is

  pub own_no : r ≡ None → None ≡ own_candidate book f m k
  own_no h = ap own_place (sym h) ∙ own_is

module _ (book : List ℕ) (R : Readable book) (k : ℕ) (O : OwnReady book k) (last first n : ℕ) (le : last ≡ last_record book) where
  pub last_in : last < records book
  unfolding last_record
  last_in = omega (arith, O.some)

pub from_first : (book : List ℕ) (f m first n : ℕ) (r : Option ℕ) → r ≡ found_below n (next_match book f m first 0 n) → r ≡ found_below n (next_match book f m first 0 (n - 0))
from_first book f m first n r e = let z : n - 0 ≡ n = omega arith in rw z e

no_candidates : (f m : ℕ) → candidates f m [] ≡ []
unfolding candidates
no_candidates f m = refl

decide : (i n : ℕ) → (i < n) ⊎ (n ≤ i)
decide i n = by (dec_lt i n)
  where
    by : Dec (i < n) → (i < n) ⊎ (n ≤ i)
    by (yes h) = inl h
    by (no h) = inr (omega arith)

-- what the search in the own run says of the rest
pub own_sought : (book : List ℕ) (F : Formed book) (ws : List ℕ) (made top f m q k : ℕ) (rest : List Force) → OwnReady book 0 → q ≡ 0
    → IsRest book ws made top q k rest → Sought book ws made top f m rest (own_candidate book f m k)
unfolding own_candidate
own_sought book F ws made top f m q k rest O e r =
    let a = own_at e r in
    let x = own_run book in
    let K : ClauseKinds book F f m x.first x.base [] k (x.count - k) = λ i l u. ((O.run i (omega (arith, a.1))).1, O.kinds i (omega (arith, a.1))) in
    rw a.0 (go k a.1 a.2 K (decide (next_match book f m x.first k (x.count - k)) x.count))
  where
    go : (k : ℕ) → k ≤ (own_run book).count → field book (last_record book) 4 ≤ made → ClauseKinds book F f m (own_run book).first 0 [] k ((own_run book).count - k)
        → (next_match book f m (own_run book).first k ((own_run book).count - k) < (own_run book).count) ⊎ ((own_run book).count ≤ next_match book f m (own_run book).first k ((own_run book).count - k))
        → Sought book ws made top f m (rest_of book (own_run book) k []) (own_candidate book f m k)
    go k l u K (inl h) =
        let y = some_here book F f m (own_run book) [] k l K h in
        let j = next_match book f m (own_run book).first k ((own_run book).count - k) in
        let z = rest_begins book F f m (own_run book) [] k l K j h in
        rw (own_candidate, ← found_yes (own_run book).count j h)
        (sought {x = record { program = 0; clause = j }} {c = force_at book (own_run book).first 0 j} {after = rest_of book (own_run book) (suc j) []}
        (rw (← z) (own_rest {p = 0} {i = j} refl (omega arith) u), own_rest {p = 0} {i = suc j} refl (omega arith) u) y.0 y.1)
    go k l u K (inr h) =
        rw (own_candidate, ← found_no (own_run book).count (next_match book f m (own_run book).first k ((own_run book).count - k)) h)
        (no_more (none_here book F f m (own_run book) [] k l K h ∙ no_candidates f m))

-- a candidate of the own run matches
pub no_cons : (x : Force) (l : List Force) → x ∷ l ≡ l → ⊥
no_cons x l e = let z : suc (length l) ≡ length l = ap length e in omega arith

module _ (book : List ℕ) (F : Formed book) (ws : List ℕ) (made top p i f m : ℕ) (O : OwnReady book 0) (e : p ≡ 0) (X : IsCandidate book ws made top p i f m) where
  abbrev own : Run
  own = own_run book

  i_below : i < own.count
  i_below = omega (arith, (own_at e X.clause.1).1)

  own_begins : X.c ∷ X.after ≡ force_at book own.first 0 i ∷ rest_of book own (suc i) []
  own_begins =
      (own_at e X.clause.0).0
      ∙ rest_begins book F f m own [] i (omega (arith, i_below)) (λ j l u. ((O.run j (omega (arith, i_below))).1, O.kinds j (omega (arith, i_below)))) i i_below

  pub own_matches : OwnMatches book f m i
  own_matches = record { below = i_below; matches = go (head_matches book f m (field book (own.first + i) 1)) refl }
    where
      go : (t : Bool) → head_matches book f m (field book (own.first + i) 1) ≡ t → t ≡ true
      go true h = refl
      go false h =
          let q = own_begins in
          let b : X.after ≡ rest_of book own (suc i) [] = cc in
          let one = one_candidate book F f m own.first 0 [] i (rest_of book own (suc i) []) (O.run i i_below).1 (O.kinds i i_below) in
          let y : X.c ∷ candidates f m X.after ≡ candidates f m X.after = sym X.first ∙ ap (candidates f m) own_begins ∙ one ∙ rw (h, b) refl in
          absurd (no_cons X.c (candidates f m X.after) y)
