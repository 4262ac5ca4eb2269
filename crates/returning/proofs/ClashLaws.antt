-- A candidate that clashes with the atom at once is passed over in two units.
use mathlib.Core.Path.{◌≡◌, refl, ◌∙◌, ap}
use mathlib.Core.Bool.{false, ◌&&◌}
use mathlib.Core.List.{List, ◌++◌}
use Prim.Native.Nat.{ℕ, suc, ◌+◌, ◌-◌, ◌<◌}
use native.Mathlib.Omega.{arith}
use lib.Dec.{eqb}
use lib.ListN.{length}
use Rattle.book.specs.Records.{field}
use Rattle.book.specs.Tree.{head_arguments}
use Rattle.book.specs.Scoped.{ScopedTexts}
use Rattle.book.specs.Decode.{arguments_of, texts_from, text_of}
use Rattle.book.proofs.Accepted.{Accepted}
use Rattle.book.proofs.Unfolding.{clause_of_lem, goal_atom, count_arguments}
use Rattle.machine.specs.declared.Tally.{Tally}
use Rattle.machine.specs.Term.{Term, Terms, var, app, cons, count, instances}
use Rattle.machine.specs.Store.{Entry, walk}
use Rattle.machine.specs.Machine.{Thread, candidates, try_all}
use Rattle.machine.specs.Answers.{Line}
use Rattle.machine.specs.Run.{Request}
use Rattle.machine.proofs.TermLaws.{count_fills}
use Rattle.words.specs.Words.{term_of, word_for, sym_w, args_w, rec_of, base_of, store_of}
use Rattle.words.specs.Readable.{Readable, TextRec, HasArguments}
use Rattle.words.specs.Good.{Below, Good, GoodTerm, Slots}
use Rattle.words.proofs.TextLaws.{term_app, args_cons}
use Rattle.words.proofs.SlotLaws.{word_app, good_term, slots_fall}
use Rattle.words.proofs.StackLaws.{RunOf, run_first, word_says}
use Rattle.words.proofs.WalkLaws.{Falls}
use Rattle.branch.specs.declared.Back.{Back}
use Rattle.branch.proofs.FromScoped.{run_of_lem}
use Rattle.steps.specs.Search.{run_on, spent_units}
use Rattle.steps.specs.Enters.{EnterReady}
use Rattle.steps.proofs.ReadyLaws.{has_atom}
use Rattle.returning.specs.Returns.{atom_of, ToClause}
use Rattle.returning.specs.Passing.{first_argument, FirstIs, Clashes}
use Rattle.returning.proofs.ClashUnits.{walk_grown, clash_units}
use Rattle.returning.proofs.CandidateLaws.{clause_now, outer_now, clause_now_lem, can_enter, made_now_lem, variables_now}

count_instances : (book : List ℕ) (b r : ℕ) → count (instances b (arguments_of book r)) ≡ field book r 2
count_instances book b r = count_fills (λ o. var (b + o)) (arguments_of book r) ∙ count_arguments book r

-- the arguments of a record that has some: the first one, and the rest
first_of_lem : (book : List ℕ) (b r : ℕ) → 0 < field book r 2
    → (rest : Terms) × (instances b (arguments_of book r) ≡ cons (term_of book (first_argument book r) b) rest)
unfolding arguments_of
first_of_lem book b r h =
    let z : field book r 2 ≡ suc (field book r 2 - 1) = omega arith in (
      instances b (texts_from book (text_of book) (suc (field book r 3)) (field book r 2 - 1)),
      ap (λ (n : ℕ). instances b (texts_from book (text_of book) (field book r 3) n)) z ∙ args_cons book b (field book r 3) (field book r 2 - 1),
    )

module _ (book : List ℕ) (R : Readable book) (A : Accepted book) (ws : List ℕ) (k : ℕ) (x : Back) (threads : List Thread) (X : ToClause book ws k x threads) where
  abbrev c : ℕ
  c = clause_now book R A ws k x threads X

  abbrev S : Slots book x.made ws
  S = X.again.sound.slots

  atom_has : HasArguments book X.a
  atom_has = has_atom book X.a X.with.here.inside X.with.kind

  atom_scoped : ScopedTexts X.with.here.holder (arguments_of book X.a)
  atom_scoped = rw (goal_atom book A.formed X.a X.with.here.inside X.with.kind) at X.with.here.scoped

  atom_run : RunOf book x.made X.e (field book X.a 3) (field book X.a 2)
  atom_run = run_of_lem book R X.with.here.holder X.e x.made X.a atom_has X.with.here.room atom_scoped

  -- the first argument can be read
  pub first_ready : 0 < field book X.a 2 → TextRec book (first_argument book X.a) × Below x.made (term_of book (first_argument book X.a) X.e)
  first_ready h =
      let z : field book X.a 2 ≡ suc (field book X.a 2 - 1) = omega arith in
      let r = run_first book x.made S.room X.e X.with.base (field book X.a 3) (field book X.a 2 - 1) (rw z at atom_run) in
      (r.0, r.1)

  pub first_good : 0 < field book X.a 2 → Good book x.made (word_for book X.e (first_argument book X.a))
  first_good h = let r = first_ready h in (word_says book x.made S.room X.e (first_argument book X.a) X.with.base r.0 r.1).1

  module _ (w : ℕ) (F : FirstIs book ws x.made X.a X.e w) (C : Clashes book x.made w c) where
    ready : EnterReady book x.made x.trail ws X.a X.e c (outer_now book R A ws k x threads X)
    ready = can_enter book R A ws k x threads X ws S X.again.sound.fits C.room

    abbrev head : ℕ
    head = field book c 4

    abbrev t : Term
    t = term_of book (first_argument book X.a) X.e

    abbrev u : Term
    u = term_of book (first_argument book head) x.made

    good_w : GoodTerm book x.made w
    good_w = good_term book x.made w S.room F.read.good F.large

    store_is : X.b.store ≡ store_of book ws x.made
    store_is = X.again.there.store

    falls : Falls X.b.store
    falls = rw store_is (slots_fall book R x.made ws S)

    t_reads : walk X.b.store t ≡ app (sym_w book w) (args_w book w)
    t_reads =
        let r = first_ready F.some in
        let says = (word_says book x.made S.room X.e (first_argument book X.a) X.with.base r.0 r.1).0 in
        rw (store_is, ← says) (F.read.walked ∙ word_app book R x.made w good_w)

    t_grown : (new : List Entry) → walk (X.b.store ++ new) t ≡ app (sym_w book w) (args_w book w)
    t_grown new =
        let b : Below (length X.b.store) t = rw (made_now_lem book R A ws k x threads X) (first_ready F.some).1 in
        walk_grown X.b.store new falls t b ∙ t_reads

    head_some : 0 < field book head 2
    head_some = omega (arith, ready.counts, F.some)

    head_first : TextRec book (first_argument book head)
    head_first = (R.target head (field book head 3) ready.head (omega arith) (omega (arith, head_some))).0

    u_is : u ≡ app (field book (first_argument book head) 1) (instances x.made (arguments_of book (first_argument book head)))
    u_is = term_app book R (first_argument book head) x.made (head_first.0, C.term)

    u_reads : (s : List Entry) → walk s u ≡ app (field book (first_argument book head) 1) (instances x.made (arguments_of book (first_argument book head)))
    unfolding walk
    u_reads s = rw u_is refl

    clash : (eqb (sym_w book w) (field book (first_argument book head) 1) && eqb (count (args_w book w)) (count (instances x.made (arguments_of book (first_argument book head))))) ≡ false
    unfolding args_w
    clash = rw (count_instances book (base_of w) (rec_of w), count_instances book x.made (first_argument book head)) C.differ

    head_is : head_arguments X.f.text ≡ arguments_of book head
    head_is = rw (clause_now_lem book R A ws k x threads X).is (ap head_arguments (clause_of_lem book A.formed c (clause_now_lem book R A ws k x threads X).inside (clause_now_lem book R A ws k x threads X).kind))

    pub pass_units : (q : Request) (n : ℕ) (y : Tally) (ls : List Line)
        → run_on q (suc (suc n)) y ls threads ≡ run_on q n (spent_units 2 y) ls (try_all X.b (atom_of book X.a X.e X.program) (candidates (field book X.a 1) (field book X.a 2) X.after) ++ X.ts)
    pass_units q n y ls =
        let args = first_of_lem book X.e X.a F.some in
        let hargs = first_of_lem book x.made head head_some in
        rw X.is
        (clash_units X.b (atom_of book X.a X.e X.program) X.f (candidates (field book X.a 1) (field book X.a 2) X.after) t u args.0 hargs.0 (sym_w book w) (field book (first_argument book head) 1) (args_w book w)
        (instances x.made (arguments_of book (first_argument book head)))
        (rw (made_now_lem book R A ws k x threads X, variables_now book R A ws k x threads X) C.room) args.1 (rw (made_now_lem book R A ws k x threads X, head_is) hargs.1)
        (t_grown _) (u_reads _) clash q n y ls X.ts)
