-- Test 4 on record number i, as an array of its eight numbers: what it points at lies below i.
use mathlib.Core.Bool.{true, ◌&&◌}
use mathlib.Core.List.{List}
use mathlib.Core.Path.{◌≡◌, subst}
use Prim.Native.Nat.{ℕ, ◌+◌, ◌≤◌, ◌<◌}
use lib.Dec.{leb}
use Rattle.book.specs.Records.{at}
use Rattle.book.specs.Kinds.{term_kind, link_kind, and_kind, suppose_kind, clause_kind, question_kind, kind_of}
use Rattle.book.specs.Fields.{zero_from, run_fits, body_fits, fields_fit_as, fields_fit}
use Rattle.book.proofs.Tests.{and_true, leb_says, ltb_says}

run_below : (i first n : ℕ) → run_fits i first n ≡ true → first + n ≤ i
unfolding run_fits
run_below i first n e = leb_says _ _ (and_true _ _ e).0

body_below : (i flag p : ℕ) → body_fits i flag p ≡ true → flag ≡ 1 → p < i
unfolding body_fits
body_below i flag p e g = let x : body_fits i 1 p ≡ true = rw g at e in ltb_says _ _ x

module _ (i : ℕ) (r : List ℕ) where
  -- by its kind
  pub fits_as : (k : ℕ) → at r 0 ≡ k → fields_fit i r ≡ true → fields_fit_as (kind_of k) i r ≡ true
  unfolding fields_fit
  fits_as k e f = subst (λ (x : ℕ). fields_fit_as (kind_of x) i r ≡ true) e f

  pub term_below : fields_fit_as term_kind i r ≡ true → at r 3 + at r 2 ≤ i
  unfolding fields_fit_as
  term_below e = let x = and_true (leb (at r 2) 8) _ e in let y = and_true _ (zero_from 4 r) x.1 in run_below i (at r 3) (at r 2) y.0

  pub link_below : fields_fit_as link_kind i r ≡ true → at r 1 < i
  unfolding fields_fit_as
  link_below e = ltb_says _ _ (and_true _ (zero_from 2 r) e).0

  pub and_below : fields_fit_as and_kind i r ≡ true → (at r 1 < i) × (at r 2 < i)
  unfolding fields_fit_as
  and_below e = let x = and_true _ _ e in let y = and_true _ _ x.1 in (ltb_says _ _ x.0, ltb_says _ _ y.0)

  pub suppose_below : fields_fit_as suppose_kind i r ≡ true → (at r 1 + at r 2 ≤ i) × (at r 3 < i)
  unfolding fields_fit_as
  suppose_below e =
      let x = and_true (leb 1 (at r 2) && leb (at r 2) 64) _ e in let y = and_true _ _ x.1 in let z = and_true _ (zero_from 4 r) y.1 in
      (run_below i (at r 1) (at r 2) y.0, ltb_says _ _ z.0)

  pub question_below : fields_fit_as question_kind i r ≡ true → (at r 1 + at r 2 ≤ i) × (at r 3 < i)
  unfolding fields_fit_as
  question_below e =
      let x = and_true (leb (at r 2) 1024) _ e in let y = and_true _ _ x.1 in let z = and_true _ (leb (at r 4) 64 && zero_from 5 r) y.1 in
      (run_below i (at r 1) (at r 2) y.0, ltb_says _ _ z.0)

  pub clause_below : fields_fit_as clause_kind i r ≡ true → (at r 2 + at r 3 ≤ i) × (at r 4 < i) × (at r 5 ≡ 1 → at r 6 < i)
  unfolding fields_fit_as
  clause_below e =
      let x = and_true (leb (at r 1) 64) _ e in let y = and_true (leb (at r 3) 64) _ x.1 in let z = and_true _ _ y.1 in
      let u = and_true _ _ z.1 in let v = and_true _ (zero_from 7 r) u.1 in
      (run_below i (at r 2) (at r 3) z.0, ltb_says _ _ u.0, body_below i (at r 5) (at r 6) v.0)
