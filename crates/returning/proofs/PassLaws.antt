-- Passing over candidates, as the code does it.
use mathlib.Core.Path.{◌≡◌, refl, sym, ◌∙◌, ap}
use mathlib.Core.Bool.{Bool, true, false, not, ◌&&◌}
use mathlib.Core.List.{List, ◌∷◌, ◌++◌}
use Rattle.std.proofs.Common.{None}
use Rattle.std.specs.Prelude.{Option, Some, None, IfSome, IsSomeAnd}
use Rattle.std.specs.Option.{ForSome}
use Prim.Native.Nat.{ℕ, suc, ◌+◌, ◌-◌, ◌*◌, ◌/◌, ◌%◌, ◌≤◌, ◌<◌}
use native.Mathlib.Omega.{arith}
use native.Mathlib.Nat.{sub-zero}
use lib.Dec.{eqb}
use Rattle.book.specs.Records.{field, records}
use Rattle.book.proofs.Accepted.{Accepted}
use Rattle.machine.specs.declared.Tally.{Tally}
use Rattle.machine.specs.declared.Ending.TheVariants.{Stopped as StoppedEnding}
use Rattle.machine.specs.declared.Limit.TheVariants.{Budget}
use Rattle.machine.specs.Machine.{Force, Thread, entering, candidates, try_all}
use Rattle.machine.specs.Answers.{Line}
use Rattle.machine.specs.Run.{Request}
use Rattle.words.specs.Words.{word_for, sym_w, rec_of}
use Rattle.words.specs.Readable.{Readable, TextRec}
use Rattle.words.specs.Good.{Good}
use Rattle.words.proofs.SlotLaws.{good_term}
use Rattle.branch.specs.declared.Back.{Back}
use Rattle.seeking.specs.declared.Place.{Place}
use Rattle.seeking.specs.Seeking.{Sought, Sought.sought, Sought.no_more}
use Rattle.seeking.specs.Memo.{Memo, MemoStays}
use Rattle.seeking.proofs.MemoLaws.{memo_less, stays_none, stays_trans}
use Rattle.steps.specs.declared.Regs.{Regs}
use Rattle.steps.specs.declared.Stepped.{Stepped}
use Rattle.steps.specs.declared.Stepped.TheVariants.{Onward, Finished}
use Rattle.steps.specs.Search.{run_on, spent_units, phase, Stands.going_back, StepGives, StepGives.steps_on, StepGives.steps_end, Leaves, MemoStepped}
use Rattle.steps.proofs.ReadyLaws.{has_atom}
use Rattle.steps.proofs.RunLaws.{none_spent}
use Rattle.steps.proofs.LeaveLaws.{leaves_none, leaves_trans, leaves_only}
use Rattle.returning.specs.declared.Passed.{Passed}
use Rattle.returning.specs.declared.Passed.TheVariants.{Next, Through}
use Rattle.returning.specs.Returns.{atom_of, ToClause}
use Rattle.returning.specs.Reentry.{place_of, moved, regs_kept}
use Rattle.returning.specs.Passing.{first_argument, FirstIs, Clashes, Passes, NextIs, OnePass, OnePass.moves, OnePass.gone, PassGives, PassGives.comes, PassGives.ends, later_by}
use Rattle.returning.proofs.RenewLaws.{atom_record, atom_base, here}
use Rattle.returning.proofs.CandidateLaws.{clause_now, can_enter, no_budget}
use Rattle.returning.proofs.ClashLaws.{first_ready, first_good, pass_units}
use Rattle.returning.proofs.MemoFrames.{clause_only, first_only}

-- THE TEST OF A CLAUSE
is_false : (z : Bool) → not z ≡ true → z ≡ false
is_false false e = refl
is_false true e = let z : ◌≡◌ {A = ℕ} 0 1 = cc in absurd (omega arith)

module _ (book : List ℕ) (made w c h l u : ℕ) (he : h ≡ field book c 4) (le : l ≡ field book h 3) (ue : u ≡ field book l 1) where
  u_first : u ≡ first_argument book (field book c 4)
  u_first = ue ∙ rw (le, he) refl

  -- the heads of the two terms differ
  pub clash_heads : made + field book c 1 ≤ 2048 → field book u 0 ≡ 2 → (f g a b : ℕ) → f ≡ field book (w / 4096 - 1) 1 → g ≡ field book u 1 → a ≡ field book (w / 4096 - 1) 2 → b ≡ field book u 2
      → not (eqb f g && eqb a b) ≡ true → Clashes book made w c
  unfolding sym_w rec_of
  clash_heads fits kind f g a b fe ge ae be t =
      record { room = fits; term = rw u_first at kind; differ = rw (fe, ge, ae, be, u_first) at (is_false (eqb f g && eqb a b) t) }

module _ (book : List ℕ) (R : Readable book) (A : Accepted book) (ws : List ℕ) (k : ℕ) (x : Back) (threads : List Thread) (X : ToClause book ws k x threads) where
  -- THE FIRST ARGUMENT
  module _ (m : ℕ) (me : m ≡ field book (x.atom / 4096 - 1) 2) (some : m ≡ 0 → ⊥) where
    some_here : 0 < field book X.a 2
    some_here = let z : m ≡ field book X.a 2 = me ∙ ap (λ (a : ℕ). field book a 2) (atom_record book ws k x threads X) in omega arith

    pub first_link : (first : ℕ) → first ≡ field book (x.atom / 4096 - 1) 3 → first < records book
    first_link first e =
        let z : first ≡ field book X.a 3 = e ∙ ap (λ (a : ℕ). field book a 3) (atom_record book ws k x threads X) in
        let h = has_atom book X.a X.with.here.inside X.with.kind in
        omega (arith, R.run X.a h, X.with.here.inside, some_here)

    pub first_text : (first t : ℕ) → first ≡ field book (x.atom / 4096 - 1) 3 → t ≡ field book first 1
        → TextRec book t × Good book x.made (word_for book (x.atom % 4096) t)
    first_text first t e f =
        let z : t ≡ first_argument book X.a = f ∙ ap (λ (a : ℕ). field book a 1) e ∙ ap (λ (a : ℕ). first_argument book a) (atom_record book ws k x threads X) in
        let y = atom_base book ws k x threads X in
        rw (z, y) ((first_ready book R A ws k x threads X some_here).0, first_good book R A ws k x threads X some_here)

  -- ONE CANDIDATE
  module _ (w : ℕ) (F : FirstIs book ws x.made (x.atom / 4096 - 1) (x.atom % 4096) w) where
    first_here : FirstIs book ws x.made X.a X.e w
    first_here = rw (atom_record book ws k x threads X, atom_base book ws k x threads X) at F

    pub term_inside : rec_of w < records book
    term_inside = (good_term book x.made w X.again.sound.slots.room F.read.good F.large).term.0

    module _ (c : ℕ) (ce : c ≡ clause_now book R A ws k x threads X) (room : x.made + field book c 1 ≤ 2048) where
      -- the clause's head and its first argument are in the book
      pub clash_ready : ((c < records book) × (field book c 4 < records book) × (field book (field book c 4) 3 < records book) × (first_argument book (field book c 4) < records book))
          × ((4096 ≤ w) × (rec_of w < records book) × (x.made + field book c 1 ≤ 2048))
      clash_ready =
          let E = can_enter book R A ws k x threads X ws X.again.sound.slots X.again.sound.fits (rw ce at room) in
          let run = R.run (field book (clause_now book R A ws k x threads X) 4) E.head in
          let h : 0 < field book (field book (clause_now book R A ws k x threads X) 4) 2 = omega (arith, E.counts, first_here.some) in (
            rw ce (E.clause, E.head.0, omega (arith, run, E.head.0, h), (R.target (field book (clause_now book R A ws k x threads X) 4) (field book (field book (clause_now book R A ws k x threads X) 4) 3) E.head (omega arith) (omega (arith, h))).0.0),
            (F.large, term_inside, room),
          )

      module _ (C : Clashes book x.made w c) where
        abbrev left_over : List Thread
        left_over = try_all X.b (atom_of book X.a X.e X.program) (candidates (field book X.a 1) (field book X.a 2) X.after) ++ X.ts

        runs : (q : Request) (n : ℕ) (y : Tally) (ls : List Line) → run_on q (suc (suc n)) y ls threads ≡ run_on q n (spent_units 2 y) ls left_over
        runs = pass_units book R A ws k x threads X w first_here (rw ce at C)

        pub one_pass : (o : Option Place) → NextIs book ws x o → OnePass book ws k x threads o
        unfolding try_all
        one_pass o s = go o (here book ws k x threads X o s)
          where
            go : (o : Option Place) → Sought book ws x.made x.programs (field book X.a 1) (field book X.a 2) X.after o → OnePass book ws k x threads o
            go (Some p) (sought {c = g} {after = after} r y z) =
                moves {p = p} {threads' = entering X.b (atom_of book X.a X.e X.program) g (candidates (field book X.a 1) (field book X.a 2) after) ∷ X.ts}
                (record {
                  b = X.b;
                  ts = X.ts;
                  a = X.a;
                  e = X.e;
                  program = X.program;
                  f = g;
                  after = after;
                  again = record { supposed = X.again.supposed; flagged = X.again.flagged; sound = X.again.sound; there = X.again.there; waiting = X.again.waiting; few = X.again.few };
                  with = record {
                    atom = X.with.atom;
                    base = X.with.base;
                    kind = X.with.kind;
                    here = X.with.here;
                    called = X.with.called;
                    program_is = X.with.program_is;
                    clause = r;
                    first = y;
                    room = X.with.room;
                    most = X.with.most;
                  };
                  is = refl;
                })
                (λ p n t ls. runs p n t ls ∙ ap (λ (cs : List Force). run_on p n (spent_units 2 t) ls (try_all X.b (atom_of book X.a X.e X.program) cs ++ X.ts)) z)
            go None (no_more z) = gone {b = X.b} {ts = X.ts} X.again (λ p n t ls. runs p n t ls ∙ ap (λ (cs : List Force). run_on p n (spent_units 2 t) ls (try_all X.b (atom_of book X.a X.e X.program) cs ++ X.ts)) z)

-- THE LOOP, from workspace ws₀
pub record PassInv (book ws₀ ws : List ℕ) (k : ℕ) (x : Back) (left : ℕ) (term : Option ℕ) (y : Back) (used : ℕ) : Type 0 where
  pub within : used ≤ left
  pub programs : y.programs ≡ x.programs
  pub memo : MemoStays book x.programs ws₀ ws
  pub first : ForSome term (FirstIs book ws y.made (y.atom / 4096 - 1) (y.atom % 4096))
  pub some : (threads : List Thread) × ToClause book ws k y threads
  pub passes : (threads : List Thread) → ToClause book ws₀ k x threads → (threads' : List Thread) × ToClause book ws k y threads' × Passes left used threads threads'

pub pass_none : (left : ℕ) (threads : List Thread) → Passes left 0 threads threads
pass_none left threads q y ls = ap (λ (t : Tally). run_on q left t ls threads) (none_spent y) ∙ ap (λ (n : ℕ). run_on q n (spent_units 0 y) ls threads) (sym (sub-zero left))

spent_two : (used : ℕ) (y : Tally) → spent_units 2 (spent_units used y) ≡ spent_units (used + 2) y
unfolding spent_units
spent_two used y = let z : y.units + used + 2 ≡ y.units + (used + 2) = omega arith in rw z refl

two_more_lem : (left used : ℕ) (ts us vs : List Thread) → 1 < left - used → Passes left used ts us
    → ((r : Request) (n : ℕ) (y : Tally) (ls : List Line) → run_on r (suc (suc n)) y ls us ≡ run_on r n (spent_units 2 y) ls vs) → Passes left (used + 2) ts vs
two_more_lem left used ts us vs h P u q y ls =
    let a : left - used ≡ suc (suc (left - (used + 2))) = omega arith in
    P q y ls ∙ ap (λ (n : ℕ). run_on q n (spent_units used y) ls us) a ∙ u q (left - (used + 2)) (spent_units used y) ls ∙ ap (λ (t : Tally). run_on q (left - (used + 2)) t ls vs) (spent_two used y)

if_some : (P : ℕ → Type 0) (o : Option ℕ) → IfSome o P → ForSome o P
if_some P None h w e = let z : ◌≡◌ {A = ℕ} 0 1 = cc in absurd (omega arith)
if_some P (Some v) h w e = let z : v ≡ w = cc in rw z at h

pub inv_start : {book ws : List ℕ} {k : ℕ} {x : Back} {left : ℕ} (term : Option ℕ) → IfSome term (FirstIs book ws x.made (x.atom / 4096 - 1) (x.atom % 4096)) → (threads : List Thread) × ToClause book ws k x threads
    → PassInv book ws ws k x left term x 0
inv_start {book} {ws} {x = x} {left = left} term F S = record {
  within = omega arith;
  programs = refl;
  memo = stays_none book x.programs ws;
  first = if_some _ term F;
  some = S;
  passes = λ ts X. (ts, X, pass_none left ts);
}

module _ {book ws₀ ws : List ℕ} {k : ℕ} {x : Back} {left : ℕ} {term : Option ℕ} where
  -- the search has written the memo
  pub inv_sought : {ws' : List ℕ} (y : Back) (used : ℕ) → PassInv book ws₀ ws k x left term y used → MemoStays book y.programs ws ws' → PassInv book ws₀ ws' k x left term y used
  inv_sought y used I M = record {
    within = I.within;
    programs = I.programs;
    memo = stays_trans I.memo (rw I.programs at M);
    first = λ w e. first_only M.0 I.some.1.again.sound.slots.room (I.first w e);
    some = (I.some.0, clause_only M.0 I.some.1);
    passes = λ ts X. let p = I.passes ts X in (p.0, clause_only M.0 p.1, p.2);
  }

  pub inv_next : (y : Back) (used : ℕ) (o : Option Place) → PassInv book ws₀ ws k x left term y used → NextIs book ws y o → (threads : List Thread) → ToClause book ws₀ k x threads → PassGives book ws k x left threads (Next y o used)
  inv_next y used o I N ts X = let p = I.passes ts X in comes {threads' = p.0} I.programs I.within N p.1 p.2

  -- the candidate y clashes, and the one after it is o
  module _ (R : Readable book) (A : Accepted book) (y : Back) (used : ℕ) (I : PassInv book ws₀ ws k x left term y used) (h : 1 < left - used) (c : ℕ) (ce : c ≡ (place_of book ws y.node y.index).clause)
      (C : IsSomeAnd term (λ w. Clashes book y.made w c)) (o : Option Place) (N : NextIs book ws y o) where
    one : (ts : List Thread) → ToClause book ws k y ts → OnePass book ws k y ts o
    one ts X = by term I.first C
      where
        by : (t : Option ℕ) → ForSome t (FirstIs book ws y.made (y.atom / 4096 - 1) (y.atom % 4096)) → IsSomeAnd t (λ w. Clashes book y.made w c) → OnePass book ws k y ts o
        by None F D = absurd D
        by (Some w) F D = one_pass book R A ws k y ts X w (F w refl) c ce D.room D o N

    pub inv_more : (p : Place) (y' : Back) → o ≡ Some p → y' ≡ moved y p.program p.clause → PassInv book ws₀ ws k x left term y' (used + 2)
    inv_more p y' e d = rw d (record {
      within = omega (arith, I.within);
      programs = I.programs;
      memo = I.memo;
      first = I.first;
      some = let s = onto I.some.0 (one I.some.0 I.some.1) e in (s.0, s.1);
      passes = λ ts X. let P = I.passes ts X in let s = onto P.0 (one P.0 P.1) e in (s.0, s.1, two_more_lem left used ts P.0 s.0 h P.2 s.2);
    })
      where
        onto : {o : Option Place} (ts : List Thread) → OnePass book ws k y ts o → o ≡ Some p
            → (us : List Thread) × ToClause book ws k (moved y p.program p.clause) us × ((r : Request) (n : ℕ) (t : Tally) (ls : List Line) → run_on r (suc (suc n)) t ls ts ≡ run_on r n (spent_units 2 t) ls us)
        onto ts (moves {p = a} {threads' = us} Y u) e = let v : a ≡ p = cc in (us, rw v at Y, u)
        onto ts (gone G u) e = let z : ◌≡◌ {A = ℕ} 0 1 = cc in absurd (omega arith)

    pub inv_gone : o ≡ None → (threads : List Thread) → ToClause book ws₀ k x threads → PassGives book ws k x left threads (Through y (used + 2))
    inv_gone e ts X = let p = I.passes ts X in go (one p.0 p.1) e p.2
      where
        go : {o : Option Place} {us : List Thread} → OnePass book ws k y us o → o ≡ None → Passes left used ts us → PassGives book ws k x left ts (Through y (used + 2))
        go {us = us} (gone {b = b} {ts = vs} G u) e Q = ends {y = y} {used = used + 2} {b = b} {ts = vs} I.programs (omega arith) (omega (arith, I.within)) G (two_more_lem left used ts us vs h Q u)
        go (moves Y u) e Q = let z : ◌≡◌ {A = ℕ} 0 1 = cc in absurd (omega arith)

-- A STEP AFTER IT
spent_both : (used n : ℕ) (y : Tally) → spent_units n (spent_units used y) ≡ spent_units (used + n) y
unfolding spent_units
spent_both used n y = let z : y.units + used + n ≡ y.units + (used + n) = omega arith in rw z refl

pub after_pass : {book ws ws' : List ℕ} {r r₀ : Regs} {left used : ℕ} {threads threads' : List Thread} {s : Stepped} → used ≤ left → phase r₀.branch ≤ 2 * used + phase r.branch → Passes left used threads threads'
    → StepGives book ws ws' r₀ (left - used) threads' s → StepGives book ws ws' r left threads (later_by used s)
unfolding later_by
after_pass {left = left} {used = used} {threads' = us} h f P (steps_on {r' = r'} {used = n} {threads' = vs} a b c d e) =
    steps_on {r' = r'} {used = used + n} {threads' = vs} (omega arith) (omega arith) c d
    (λ q y ls.
    let z : left - used - n ≡ left - (used + n) = omega arith in
    P q y ls ∙ e q (spent_units used y) ls ∙ ap (λ (m : ℕ). run_on q m (spent_units n (spent_units used y)) ls vs) z ∙ ap (λ (t : Tally). run_on q (left - (used + n)) t ls vs) (spent_both used n y))
after_pass {left = left} {used = used} {threads' = us} h f P (steps_end {e = x} {used = n} a b e) =
    steps_end {e = x} {used = used + n} (omega arith) b
    (λ q y ls. P q y ls ∙ e q (spent_units used y) ls ∙ ap (λ (t : Tally). record { ending = x; tally = t; lines = ls }) (spent_both used n y))

came_to : {book ws : List ℕ} {k : ℕ} {x : Back} {left : ℕ} {threads : List Thread} {p : Passed} (y : Back) (o : Option Place) (used : ℕ) → PassGives book ws k x left threads p → p ≡ Next y o used
    → (used ≤ left) × ((threads' : List Thread) × ToClause book ws k y threads' × Passes left used threads threads') × NextIs book ws y o × (y.programs ≡ x.programs)
came_to y o used (comes {y = a} {o = d} {used = b} {threads' = us} g h N Y P) e =
    let v : a ≡ y = cc in
    let w : b ≡ used = cc in
    let z : d ≡ o = cc in
    (rw (← w) h, (us, rw v at Y, rw w at P), rw (v, z) at N, rw v at g)
came_to y o used (ends g a b G P) e = let z : ◌≡◌ {A = ℕ} 0 1 = cc in absurd (omega arith)

-- a step from a workspace that differs only elsewhere
pub gives_from : {book ws ws₁ ws₂ : List ℕ} {r : Regs} {left : ℕ} {threads : List Thread} {o : Stepped} → Leaves ws ws₁ → StepGives book ws₁ ws₂ r left threads o → StepGives book ws ws₂ r left threads o
gives_from K (steps_on {r' = r'} {used = used} {threads' = threads'} a b c d e) = steps_on {r' = r'} {used = used} {threads' = threads'} a b (leaves_trans K c) d e
gives_from K (steps_end {e = e} {used = used} a b c) = steps_end {e = e} {used = used} a (b ∙ K.index.size) c

-- the candidates are passed over from workspace ws₀, which leaves ws
module _ (book : List ℕ) (R : Readable book) (A : Accepted book) (ws₀ ws : List ℕ) (k : ℕ) (x : Back) (left : ℕ) (o : Passed)
    (P : (threads : List Thread) → ToClause book ws₀ k x threads → PassGives book ws k x left threads o) (M : MemoStays book x.programs ws₀ ws) where
  from_there : {ws' : List ℕ} {r : Regs} {threads : List Thread} {s : Stepped} → StepGives book ws ws' r left threads s → StepGives book ws₀ ws' r left threads s
  from_there S = gives_from (leaves_only M.0) S

  module _ (y : Back) (next : Option Place) (used : ℕ) (e : o ≡ Next y next used) where
    pub pass_some : (threads : List Thread) × ToClause book ws₀ k x threads → (used ≤ left) × ((threads : List Thread) × ToClause book ws k y threads) × NextIs book ws y next
    pass_some s = let p = came_to y next used (P s.0 s.1) e in (p.0, (p.1.0, p.1.1), p.2)

    pub pass_memo : (threads : List Thread) × ToClause book ws₀ k x threads → Memo book ws₀ x.programs left → Memo book ws y.programs (left - used)
    pass_memo s N = let p = came_to y next used (P s.0 s.1) e in memo_less (omega (arith, p.3)) (omega arith) (M.1 left N)

    pub pass_budget : (r : Regs) → left ≤ used → (threads : List Thread) → ToClause book ws₀ k x threads → StepGives book ws₀ ws r left threads (Finished (StoppedEnding Budget) used)
    unfolding later_by
    pass_budget r l threads X =
        let p = came_to y next used (P threads X) e in
        let z : used + 0 ≡ used = omega arith in
        let S = after_pass {r = r} {r₀ = r} p.0 (omega arith) p.1.2 (no_budget book R A ws k y p.1.0 p.1.1 r (left - used) (omega arith)) in
        from_there (rw z at S)

    pub pass_next : (r : Regs) (ws' : List ℕ) (s t : Stepped) → ((threads : List Thread) → ToClause book ws k y threads → StepGives book ws ws' r (left - used) threads s) → t ≡ later_by used s
        → (threads : List Thread) → ToClause book ws₀ k x threads → StepGives book ws₀ ws' r left threads t
    pass_next r ws' s t T d threads X = let p = came_to y next used (P threads X) e in rw d (from_there (after_pass {r₀ = r} p.0 (omega arith) p.1.2 (T p.1.0 p.1.1)))

  module _ (y : Back) (used : ℕ) (e : o ≡ Through y used) (g : Regs) (d : g ≡ regs_kept y k None) where
    pub pass_through : (r : Regs) → r.branch ≡ None → (threads : List Thread) → ToClause book ws₀ k x threads → StepGives book ws₀ ws r left threads (Onward used g)
    pass_through r s threads X = rw d (from_there (go (P threads X) e))
      where
        go : {o : Passed} → PassGives book ws k x left threads o → o ≡ Through y used → StepGives book ws ws r left threads (Onward used (regs_kept y k None))
        go (ends {y = a} {used = b} {ts = ts} i h l G Q) e =
            let v : a ≡ y = cc in let w : b ≡ used = cc in
            let G' = rw v at G in
            steps_on {r' = regs_kept y k None} {used = used} {threads' = ts} (omega (arith, l, w)) (rw s (omega (arith, h, w))) (leaves_none ws) (going_back refl G'.sound G'.waiting) (rw w at Q)
        go (comes i h N Y Q) e = let z : ◌≡◌ {A = ℕ} 0 1 = cc in absurd (omega arith)

    pub through_memo : (threads : List Thread) × ToClause book ws₀ k x threads → Memo book ws₀ x.programs left → MemoStepped book ws left (Onward used g)
    unfolding MemoStepped
    through_memo s N = rw d (memo_less (go (P s.0 s.1) e) (omega arith) (M.1 left N))
      where
        go : {o : Passed} → PassGives book ws k x left s.0 o → o ≡ Through y used → y.programs ≤ x.programs
        go (ends {y = a} i h l G Q) e = let v : a ≡ y = cc in omega (arith, rw v at i)
        go (comes i h N Y Q) e = let z : ◌≡◌ {A = ℕ} 0 1 = cc in absurd (omega arith)
