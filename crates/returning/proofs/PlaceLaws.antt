-- The clause at a place of a program, as the code reads it.
use mathlib.Core.Path.{◌≡◌, refl, sym, ◌∙◌}
use mathlib.Core.List.{List, ◌∷◌}
use Prim.Native.Nat.{ℕ, ◌+◌, ◌-◌, ◌*◌, ◌/◌, ◌%◌, ◌≤◌, ◌<◌}
use native.Mathlib.Omega.{arith}
use native.Mathlib.Decide.{dec_lt}
use borrow.Author.Tests.{eq-eqb, ne_eqb}
use lib.ListN.{get_or}
use Rattle.book.specs.Records.{field, records, last_record}
use Rattle.book.proofs.Accepted.{Accepted}
use Rattle.machine.specs.Machine.{Force}
use Rattle.words.specs.Words.{rec_of, base_of}
use Rattle.words.specs.Readable.{Readable}
use Rattle.words.proofs.PackLaws.{rec_pack, base_pack, pack_large}
use Rattle.index.proofs.RunLaws.{suppose_run}
use Rattle.branch.specs.State.{own_run, IsClause}
use Rattle.seeking.proofs.SeekOwn.{own_at}
use Rattle.branch.proofs.FromScoped.{own_ready}
use Rattle.branch.proofs.ClauseLaws.{ClauseHere, put_clause, own_clause}
use Rattle.returning.specs.Reentry.{place_of}
use Rattle.seeking.proofs.SeekChain.{PutAt, put_at_lem}

module _ (book : List ℕ) (R : Readable book) (A : Accepted book) (ws : List ℕ) (made top q i : ℕ) (f : Force) (after : List Force) (C : IsClause book ws made top q i f after) where
  -- THE QUESTION'S OWN RUN
  module _ (z : q ≡ 0) where
    own_more : i < (own_run book).count
    own_more = omega (arith, (own_at z C.1).1)

    pub own_link : (last first : ℕ) → last ≡ last_record book → first ≡ field book last 1 → first + i < records book
    own_link last first l e = rw (e, l) ((own_ready book A).run i own_more).0

    pub own_place : (last first c : ℕ) → last ≡ last_record book → first ≡ field book last 1 → c ≡ field book (first + i) 1 → record { clause = c; outer = 0 } ≡ place_of book ws q i
    unfolding place_of
    own_place last first c l e d = rw (place_of, d, e, l, eq-eqb q 0 z) refl

    own_here : ClauseHere book made f (place_of book ws q i).clause (place_of book ws q i).outer
    own_here =
        let x = own_at z C.0 in
        rw (← own_place (last_record book) (field book (last_record book) 1) (field book (field book (last_record book) 1 + i) 1) refl refl refl)
        (own_clause book A made i f after x.2 own_more (sym x.0))

  -- A PROGRAM THAT WAS PUT
  module _ (z : 0 < q) where
    at_put : PutAt book ws made top q i (f ∷ after)
    at_put = put_at_lem z C.0

    pub put_large : 4096 ≤ get_or ws (8200 + 3 * q) 0
    put_large = rw at_put.word (pack_large at_put.s at_put.b)

    rec_is : rec_of (get_or ws (8200 + 3 * q) 0) ≡ at_put.s
    rec_is = rw at_put.word (rec_pack at_put.s at_put.b at_put.base)

    base_is : base_of (get_or ws (8200 + 3 * q) 0) ≡ at_put.b
    base_is = rw at_put.word (base_pack at_put.s at_put.b at_put.base)

    -- the place after it is one of the same run
    put_more : i < field book at_put.s 2
    put_more =
        let Y = put_at_lem z C.1 in
        let e : Y.s ≡ at_put.s = sym (rw Y.word (rec_pack Y.s Y.b Y.base)) ∙ rec_is in
        omega (arith, rw e at Y.most)

    pub put_inside : (w : ℕ) → w ≡ get_or ws (8200 + 3 * q) 0 → w / 4096 - 1 < records book
    unfolding rec_of
    put_inside w e = rw (e, rec_is) at_put.here.inside

    pub put_link : (w first : ℕ) → w ≡ get_or ws (8200 + 3 * q) 0 → first ≡ field book (w / 4096 - 1) 1 → first + i < records book
    unfolding rec_of
    put_link w first e d =
        let y = suppose_run book R A.formed at_put.s at_put.here.inside at_put.kind in
        rw (d, e, rec_is) (y.0 i put_more).0

    nonzero : q ≡ 0 → ⊥
    nonzero e = omega arith

    pub put_place : (w first c : ℕ) → w ≡ get_or ws (8200 + 3 * q) 0 → first ≡ field book (w / 4096 - 1) 1 → c ≡ field book (first + i) 1
        → record { clause = c; outer = w % 4096 } ≡ place_of book ws q i
    unfolding place_of rec_of base_of
    put_place w first c e d l = rw (place_of, l, d, e, ne_eqb q 0 nonzero) refl

    put_is : record { clause = field book (field book at_put.s 1 + i) 1; outer = at_put.b } ≡ place_of book ws q i
    unfolding place_of
    put_is = rw (place_of, ne_eqb q 0 nonzero, rec_is, base_is) refl

    put_here : ClauseHere book made f (place_of book ws q i).clause (place_of book ws q i).outer
    put_here =
        let X = at_put in
        rw (← put_is)
        (put_clause book A made X.s X.b i X.program f after X.here.inside X.kind X.here.holder X.here.scoped X.here.room put_more (sym X.is))

  pub place_here : ClauseHere book made f (place_of book ws q i).clause (place_of book ws q i).outer
  place_here = by (dec_lt 0 q)
    where
      by : Dec (0 < q) → ClauseHere book made f (place_of book ws q i).clause (place_of book ws q i).outer
      by (yes h) = put_here h
      by (no h) = own_here (omega arith)
