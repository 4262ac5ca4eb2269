-- The search along the programs: what it finds in the programs that were put, and what the words say of it.
use mathlib.Core.Path.{◌≡◌, refl, sym, ◌∙◌, ap}
use mathlib.Core.Bool.{Bool, true, false}
use mathlib.Core.List.{List, ◌∷◌}
use Prim.Native.Nat.{ℕ, suc, ◌+◌, ◌-◌, ◌*◌, ◌≤◌, ◌<◌, ◌/◌, ◌%◌}
use native.Mathlib.Omega.{arith}
use lib.ListN.{get_or}
use Rattle.book.specs.Records.{field, records}
use Rattle.book.specs.Kinds.{kind_at, suppose_kind}
use Rattle.book.proofs.Accepted.{Formed}
use Rattle.book.proofs.Pointers.{suppose_clauses}
use Rattle.machine.specs.Machine.{Force, candidates}
use Rattle.words.specs.Words.{term_word, rec_of}
use Rattle.words.specs.Readable.{Readable}
use Rattle.std.specs.Prelude.{Option, Some, None}
use Rattle.branch.specs.State.{OwnReady, Run, rest_of, run_of_suppose, GoalHere, IsRest, IsRest.own_rest, IsRest.put_rest}
use Rattle.index.specs.Runs.{head_matches, next_match, found_below}
use Rattle.index.specs.Index.{head_bucket}
use Rattle.seeking.specs.Seeking.{AllIndexed, own_candidate, IsCandidate, Sought, Sought.sought, Sought.no_more, PutMatches, Standing, SoughtPut, SoughtPut.put_here, SoughtPut.put_nowhere}
use Rattle.seeking.proofs.SeekLaws.{force_at, ClauseKinds, one_candidate, none_here, some_here, rest_begins}
use Rattle.words.proofs.PackLaws.{rec_pack, pack_large}
use Rattle.seeking.specs.declared.Place.{Place}
use Rattle.supposed.specs.Supposed.{marked, SupposedIndexed}
use Rattle.index.proofs.RunLaws.{suppose_run, found_some, found_none}
use Rattle.supposed.proofs.SearchLaws.{not_marked}
use Rattle.index.proofs.IndexLaws.{indexed_same}
use Rattle.supposed.proofs.SupposedKeeps.{supposed_same}
use Rattle.words.specs.Frame.{Keeps}
use Rattle.words.proofs.StackLaws.{keeps_narrow}
use Rattle.seeking.proofs.SeekOwn.{own_sought, no_cons}

-- a program that was put before another one
pub record PutAt (book ws : List ℕ) (made top q k : ℕ) (rest : List Force) : Type 0 where
  pub s : ℕ
  pub b : ℕ
  pub prev : ℕ
  pub program : List Force
  pub some : 0 < q
  pub below : q < top
  pub word : get_or ws (8200 + 3 * q) 0 ≡ term_word s b
  pub link : get_or ws (8200 + 3 * q + 1) 0 ≡ prev
  pub falls : prev < q
  pub kind : kind_at book s ≡ suppose_kind
  pub here : GoalHere book made s b
  pub base : b < 4096
  pub most : k ≤ field book s 2
  pub before : IsRest book ws made top prev 0 program
  pub is : rest ≡ rest_of book (run_of_suppose book s b) k program

pub put_at_lem : {book ws : List ℕ} {made top q k : ℕ} {rest : List Force} → 0 < q → IsRest book ws made top q k rest → PutAt book ws made top q k rest
put_at_lem h (own_rest e m u) = absurd (omega arith)
put_at_lem h (put_rest {q = prev} {s = s} {b = b} {program = program} a c d e f g i j m r) = record
    { s = s; b = b; prev = prev; program = program; some = a; below = c; word = d; link = e; falls = f; kind = g; here = i; base = j; most = m; before = r; is = refl }

-- the run of a suppose goal is one of clauses
suppose_kinds : (book : List ℕ) (F : Formed book) (s : ℕ) → s < records book → kind_at book s ≡ suppose_kind → (f m b j n : ℕ) (program : List Force) → j + n ≤ field book s 2
    → ClauseKinds book F f m (field book s 1) b program j n
suppose_kinds book F s h k f m b j n program l i a c =
    let z = suppose_clauses book F s h k (field book s 1 + i) (omega arith) (omega arith) in (omega (arith, z.0), z.1)

-- A PROGRAM THAT WAS PUT
module _ (book : List ℕ) (R : Readable book) (F : Formed book) (ws : List ℕ) (made top q k : ℕ) (rest : List Force) (X : PutAt book ws made top q k rest) where
  -- its suppose goal, as its word has it
  abbrev goal : ℕ
  goal = get_or ws (8200 + 3 * q) 0 / 4096 - 1

  pub record_is : goal ≡ X.s
  unfolding rec_of
  record_is = rw X.word (rec_pack X.s X.b X.base)

  pub word_large : 4096 ≤ get_or ws (8200 + 3 * q) 0
  word_large = rw X.word (pack_large X.s X.b)

  pub goal_ready : (goal < records book) × (kind_at book goal ≡ suppose_kind)
  goal_ready = rw record_is (X.here.inside, X.kind)

  module _ (f m : ℕ) where
    abbrev next : ℕ
    next = next_match book f m (field book X.s 1) k (field book X.s 2 - k)

    kinds_here : ClauseKinds book F f m (field book X.s 1) X.b X.program k (field book X.s 2 - k)
    kinds_here = suppose_kinds book F X.s X.here.inside X.kind f m X.b k (field book X.s 2 - k) X.program (omega (arith, X.most))

    pub seek_next : field book X.s 2 ≤ next → candidates f m rest ≡ candidates f m X.program
    seek_next h = rw X.is (none_here book F f m (run_of_suppose book X.s X.b) X.program k X.most kinds_here h)

    rest_at : (i : ℕ) → i ≤ field book X.s 2 → IsRest book ws made top q i (rest_of book (run_of_suppose book X.s X.b) i X.program)
    rest_at i l =
        put_rest {p = q} {i = i} {s = X.s} {b = X.b} {program = X.program} X.some X.below X.word X.link X.falls X.kind X.here X.base l X.before

    seek_found : (j : ℕ) → j ≡ next → j < field book X.s 2 → Sought book ws made top f m rest (Some (record { program = q; clause = j }))
    seek_found j e l =
        let y = some_here book F f m (run_of_suppose book X.s X.b) X.program k X.most kinds_here (rw (← e) l) in
        let z = rest_begins book F f m (run_of_suppose book X.s X.b) X.program k X.most kinds_here j l in
        rw X.is
        (sought {x = record { program = q; clause = j }} {c = force_at book (field book X.s 1) X.b j} {after = rest_of book (run_of_suppose book X.s X.b) (suc j) X.program}
        (rw (← z) (rest_at j (omega arith)), rest_at (suc j) (omega arith)) (rw (← e) at y.0) (rw (← e) at y.1))

    -- what is found among its clauses from k on
    module _ (r : Option ℕ) (e : r ≡ found_below (field book goal 2) (next_match book f m (field book goal 1) k (field book goal 2 - k))) where
      among : r ≡ found_below (field book X.s 2) next
      among = e ∙ rw record_is refl

      -- that the number told is the one found is a fact of its own
      pub found_here : (i : ℕ) → r ≡ Some i → (told : ℕ) → told ≡ i → Sought book ws made top f m rest (Some (record { program = q; clause = told }))
      found_here i h told same = rw same (let y = found_some _ _ i (sym h ∙ among) in seek_found i y.1 (omega (arith, y.0, y.1)))

      pub none_found : r ≡ None → candidates f m rest ≡ candidates f m X.program
      none_found h = seek_next (found_none _ _ (sym h ∙ among))

-- from its first clause on
module _ (book : List ℕ) (R : Readable book) (F : Formed book) (ws : List ℕ) (made top q : ℕ) (rest : List Force) (X : PutAt book ws made top q 0 rest) (f m : ℕ) (r : Option ℕ)
    (e : r ≡ found_below (field book (get_or ws (8200 + 3 * q) 0 / 4096 - 1) 2) (next_match book f m (field book (get_or ws (8200 + 3 * q) 0 / 4096 - 1) 1) 0 (field book (get_or ws (8200 + 3 * q) 0 / 4096 - 1) 2))) where
  from_none : r ≡ found_below (field book (get_or ws (8200 + 3 * q) 0 / 4096 - 1) 2) (next_match book f m (field book (get_or ws (8200 + 3 * q) 0 / 4096 - 1) 1) 0 (field book (get_or ws (8200 + 3 * q) 0 / 4096 - 1) 2 - 0))
  from_none = let z : field book (get_or ws (8200 + 3 * q) 0 / 4096 - 1) 2 - 0 ≡ field book (get_or ws (8200 + 3 * q) 0 / 4096 - 1) 2 = omega arith in rw z e

  pub first_here : (i : ℕ) → r ≡ Some i → Sought book ws made top f m rest (Some (record { program = q; clause = i }))
  first_here i h = found_here book R F ws made top q 0 rest X f m r from_none i h i refl

  pub first_none : r ≡ None → candidates f m rest ≡ candidates f m X.program
  first_none h = none_found book R F ws made top q 0 rest X f m r from_none h

-- a candidate of a program that was put matches
module _ (book : List ℕ) (R : Readable book) (F : Formed book) (ws : List ℕ) (made top p i f m : ℕ) (h : 0 < p) (X : IsCandidate book ws made top p i f m) where
  here : PutAt book ws made top p i (X.c ∷ X.after)
  here = put_at_lem h X.clause.0

  number_below : i < field book here.s 2
  number_below =
      let P = put_at_lem h X.clause.1 in
      let e : P.s ≡ here.s = sym (record_is book R F ws made top p (suc i) X.after P) ∙ record_is book R F ws made top p i (X.c ∷ X.after) here in
      omega (arith, P.most, ap (λ (s : ℕ). field book s 2) e)

  abbrev its_run : Run
  its_run = run_of_suppose book here.s here.b

  its_kinds : ClauseKinds book F f m its_run.first its_run.base here.program i (its_run.count - i)
  its_kinds = suppose_kinds book F here.s here.here.inside here.kind f m here.b i (its_run.count - i) here.program (omega (arith, number_below))

  put_begins : X.c ∷ X.after ≡ force_at book its_run.first its_run.base i ∷ rest_of book its_run (suc i) here.program
  put_begins = here.is ∙ rest_begins book F f m its_run here.program i (omega (arith, number_below)) its_kinds i number_below

  pub put_matches : PutMatches book ws p i f m
  put_matches =
      ap (λ (s : ℕ). head_matches book f m (field book (field book s 1 + i) 1)) (record_is book R F ws made top p i (X.c ∷ X.after) here)
      ∙ go (head_matches book f m (field book (its_run.first + i) 1)) refl
    where
      go : (t : Bool) → head_matches book f m (field book (its_run.first + i) 1) ≡ t → t ≡ true
      go true e = refl
      go false e =
          let q = put_begins in
          let b : X.after ≡ rest_of book its_run (suc i) here.program = cc in
          let K = its_kinds i (omega arith) (omega (arith, number_below)) in
          let one = one_candidate book F f m its_run.first its_run.base here.program i (rest_of book its_run (suc i) here.program) K.0 K.1 in
          let y : X.c ∷ candidates f m X.after ≡ candidates f m X.after = sym X.first ∙ ap (candidates f m) put_begins ∙ one ∙ rw e (ap (candidates f m) (sym b)) in
          absurd (no_cons X.c (candidates f m X.after) y)

-- the number of a candidate of a program that was put, and the place after it
pub candidate_put : (book : List ℕ) (R : Readable book) (F : Formed book) (ws : List ℕ) (made top p i f m : ℕ) → 0 < p → IsCandidate book ws made top p i f m
    → (i < 64) × Standing book ws made top p (i + 1)
candidate_put book R F ws made top p i f m h X =
    let P = put_at_lem h X.clause.1 in
    let y = suppose_run book R F P.s P.here.inside P.kind in
    let z : i + 1 ≡ suc i = omega arith in
    (omega (arith, P.most, y.2), (X.after, rw z X.clause.1))

-- the answer for a rest with the same candidates
pub sought_as : {book ws : List ℕ} {made top f m : ℕ} {rest rest' : List Force} {o : Option Place} → candidates f m rest ≡ candidates f m rest'
    → Sought book ws made top f m rest o → Sought book ws made top f m rest' o
sought_as e (sought {x = p} {c = c} {after = after} r x y) = sought {x = p} {c = c} {after = after} r x (sym e ∙ y)
sought_as e (no_more y) = no_more (sym e ∙ y)

pub put_as : {book ws : List ℕ} {made top f m w : ℕ} {rest rest' : List Force} → candidates f m rest ≡ candidates f m rest'
    → SoughtPut book ws made top f m rest w → SoughtPut book ws made top f m rest' w
put_as e (put_here a l X) = put_here a l (sought_as e X)
put_as e (put_nowhere {own = own} a X c) = put_nowhere {own = own} a X (c ∙ e)

-- WHAT THE WORD SAYS
module _ {book ws : List ℕ} {made top f m : ℕ} {rest : List Force} {w : ℕ} (S : SoughtPut book ws made top f m rest w) where
  pub word_here : 0 < w → Sought book ws made top f m rest (Some (record { program = (w - 1) / 128; clause = (w - 1) % 128 }))
  word_here h = go S
    where
      go : SoughtPut book ws made top f m rest w → Sought book ws made top f m rest (Some (record { program = (w - 1) / 128; clause = (w - 1) % 128 }))
      go (put_here {x = x} e l X) = let a : (w - 1) / 128 ≡ x.program = omega arith in let b : (w - 1) % 128 ≡ x.clause = omega arith in rw (a, b) X
      go (put_nowhere e X c) = absurd (omega arith)

  pub word_nowhere : (F : Formed book) → OwnReady book 0 → w ≤ 0 → Sought book ws made top f m rest (own_candidate book f m 0)
  word_nowhere F O h = go S
    where
      go : SoughtPut book ws made top f m rest w → Sought book ws made top f m rest (own_candidate book f m 0)
      go (put_here e l X) = absurd (omega arith)
      go (put_nowhere {own = own} e X c) = sought_as c (own_sought book F ws made top f m 0 0 own O refl X)

-- WHERE NOTHING IS MARKED, no program that was put has a candidate
at_own : {book ws : List ℕ} {made top q k : ℕ} {rest : List Force} → q ≡ 0 → k ≡ 0 → IsRest book ws made top q k rest → IsRest book ws made top 0 0 rest
at_own a b r = rw (a, b) at r

-- nor has the question's own, which was not put
pub own_nowhere : (book ws : List ℕ) (made top f m q : ℕ) (rest : List Force) → q ≡ 0 → IsRest book ws made top q 0 rest → SoughtPut book ws made top f m rest 0
own_nowhere book ws made top f m q rest e r = put_nowhere refl (at_own e refl r) refl

pub unmarked : (book : List ℕ) (R : Readable book) (F : Formed book) (ws : List ℕ) (f m : ℕ) → SupposedIndexed book ws → marked ws (head_bucket f m) ≡ false
    → (made top q k : ℕ) (rest : List Force) → (q ≡ 0 → k ≡ 0) → IsRest book ws made top q k rest → SoughtPut book ws made top f m rest 0
unfolding put_at_lem
unmarked book R F ws f m S e made top q k rest z (own_rest a b c) = put_nowhere refl (at_own a (z a) (own_rest a b c)) refl
unmarked book R F ws f m S e made top q k rest z (put_rest {q = prev} {s = s} {b = b} {program = program} a c d l g h i j n r) =
    let X : PutAt book ws made top q k rest = put_at_lem a (put_rest {q = prev} {s = s} {b = b} {program = program} a c d l g h i j n r) in
    let u = not_marked book ws f m s k S i.inside h e n in
    put_as (sym (seek_next book R F ws made top q k rest X f m (omega (arith, u)))) (unmarked book R F ws f m S e made top prev 0 program (λ x. refl) r)

-- the indexes are kept with their words
pub all_same : (book : List ℕ) {ws ws' : List ℕ} → OwnReady book 0 → Keeps 4096 6144 ws ws' → Keeps 12304 13328 ws ws' → AllIndexed book ws → AllIndexed book ws'
all_same book O K L I =
    record { own = indexed_same book _ _ O.count_small K I.own; supposed = supposed_same book (keeps_narrow (omega arith) (omega arith) K) L I.supposed }
