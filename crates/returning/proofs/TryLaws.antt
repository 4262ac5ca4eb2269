-- Trying the next candidate, from the renewed alternative and the body's cell to what the step gives.
use mathlib.Core.Path.{◌≡◌, refl, sym, ◌∙◌, ap}
use mathlib.Core.Bool.{Bool, true, false}
use mathlib.Core.List.{List, ◌∷◌, ◌++◌}
use Prim.Native.Nat.{ℕ, suc, ◌+◌, ◌-◌, ◌*◌, ◌≤◌, ◌<◌}
use native.Mathlib.Omega.{arith}
use lib.Dec.{eqb}
use Rattle.std.proofs.Common.{Some, None}
use Rattle.book.specs.Records.{field}
use Rattle.book.proofs.Accepted.{Accepted}
use Rattle.machine.specs.declared.Limit.{Limit}
use Rattle.machine.specs.declared.Ending.TheVariants.{Stopped as StoppedEnding}
use Rattle.machine.specs.declared.Tally.{Tally}
use Rattle.machine.specs.Machine.{Thread, solving, entering, Branch, Force, candidates, try_all}
use Rattle.machine.specs.Answers.{Line}
use Rattle.machine.specs.Run.{Request}
use Rattle.words.specs.Words.{store_of}
use Rattle.words.specs.Readable.{Readable}
use Rattle.words.specs.Frame.{Keeps}
use Rattle.words.proofs.StackLaws.{keeps_trans, keeps_narrow, store_same}
use Rattle.looks.specs.declared.How.{How}
use Rattle.looks.specs.declared.How.TheVariants.{Done, Failed, Stopped}
use Rattle.unifier.specs.declared.Unified.{Unified}
use Rattle.looks.specs.Moves.{Went, Went.done, Went.fails, Went.full, Went.spent}
use Rattle.branch.specs.declared.Back.{Back}
use Rattle.branch.specs.State.{Tops, IsBranch, Sound, Waiting, Agree, flag}
use Rattle.branch.proofs.StateLaws.{goals_agree}
use Rattle.seeking.specs.Memo.{Memo}
use Rattle.seeking.proofs.MemoLaws.{memo_kept}
use Rattle.steps.specs.declared.Regs.{Regs}
use Rattle.steps.specs.declared.Stepped.TheVariants.{Onward, Finished}
use Rattle.steps.specs.Enters.{EnterReady, Enters}
use Rattle.steps.specs.Search.{Leaves, run_on, spent_units, tops_of, Stands.goal_in_hand, Stands.going_back, StepGives, StepGives.steps_on, StepGives.steps_end, MemoStepped}
use Rattle.steps.proofs.EnterRuns.{force_here, branch_here}
use Rattle.steps.proofs.EnterWaits.{enters_sound, waiting_enters}
use Rattle.steps.proofs.BackRuns.{entered_done, entered_failed, entered_stopped}
use Rattle.steps.proofs.LeaveLaws.{leaves_trans, leaves_between}
use Rattle.returning.specs.declared.Front.{Front}
use Rattle.returning.specs.Returns.{atom_of, ToClause}
use Rattle.returning.specs.Reentry.{Renewed, branch_from, regs_of, outcome_of}
use Rattle.returning.proofs.CandidateLaws.{clause_now, outer_now, clause_now_lem, can_enter}
use Rattle.returning.proofs.BodyGoals.{tops_with, made_now, goals_now, agree_renewed, Ready}
use Rattle.returning.proofs.OutcomeLaws.{outcome_done, outcome_failed, outcome_stopped}

-- the flag of a kept branch, read back
pub flag_back : (s : Bool) (n : ℕ) → n ≡ flag s → eqb n 1 ≡ s
flag_back true n e = rw e refl
flag_back false n e = rw e refl

-- a part of a run takes no more units than there are
pub went_most : {t w : Thread} {left n : ℕ} {how : How} → Went t w left how n → n ≤ left
went_most (done p h) = h
went_most (fails p a d h) = h
went_most (full p a h) = omega arith
went_most (spent p d) = omega arith

module _ (book : List ℕ) (R : Readable book) (A : Accepted book) (ws : List ℕ) (k : ℕ) (x : Back) (threads : List Thread) (X : ToClause book ws k x threads)
    (ws₁ : List ℕ) (n : ℕ) (N : Renewed book ws ws₁ k x threads X n) (room : x.made + field book (clause_now book R A ws k x threads X) 1 ≤ 2048)
    (ws₂ : List ℕ) (l : Front) (D : Ready book R A ws k x threads X ws₁ n N room ws₂ l) where
  abbrev c : ℕ
  c = clause_now book R A ws k x threads X

  abbrev o : ℕ
  o = outer_now book R A ws k x threads X

  abbrev made : ℕ
  made = made_now book R A ws k x threads X ws₁ n N room

  pub enter_now : EnterReady book x.made x.trail ws₂ X.a X.e c o
  enter_now = can_enter book R A ws k x threads X ws₂ D.sound.slots D.sound.fits room

  store_now : X.b.store ≡ store_of book ws₂ x.made
  store_now = X.again.there.store ∙ sym (store_same book x.made x.made (omega arith) (agree_renewed book R A ws k x threads X ws₁ n N room).slots) ∙ sym (store_same book x.made x.made (omega arith) D.agree.slots)

  module _ (ws₃ : List ℕ) (left : ℕ) (u : Unified) (some : 0 < left) (E : Enters book x.made x.trail ws₂ ws₃ X.a X.e c o (left - 1) u) where
    abbrev cs : List Force
    cs = candidates (field book X.a 1) (field book X.a 2) X.after

    abbrev behind : List Thread
    behind = try_all X.b (atom_of book X.a X.e X.program) cs ++ X.ts

    abbrev after : Branch
    after = record { goals = goals_now book R A ws k x threads X ws₁ n N room; store = store_of book ws₃ made; taken = X.b.taken; supposed = X.b.supposed }

    pub used_most : u.used ≤ left - 1
    used_most = went_most (E.ends.went (branch_here book A.formed x.made x.trail ws₂ ws₃ X.a X.e c o (left - 1) u enter_now E (clause_now_lem book R A ws k x threads X).kind X.b store_now X.program cs) refl)

    entered_keeps : Keeps 4096 15616 ws₂ ws₃
    entered_keeps = keeps_trans (keeps_narrow (omega arith) (omega arith) E.above) E.ends.changed.keeps

    steps_keep : Leaves ws ws₃
    steps_keep = leaves_trans N.leaves (leaves_trans D.leaves (leaves_between (omega arith) entered_keeps))

    -- the programs and the memo are not touched
    memo_still : (left' : ℕ) → left' ≤ left → Memo book ws x.programs left → Memo book ws₃ x.programs left'
    memo_still left' h M =
        let K : Keeps 8200 (8200 + 3 * x.programs) ws₂ ws₃ = keeps_narrow (omega arith) (omega (arith, D.sound.programs_most)) entered_keeps in
        memo_kept (keeps_trans (agree_renewed book R A ws k x threads X ws₁ n N room).programs (keeps_trans D.agree.programs K))
        (keeps_trans N.memo (keeps_trans D.memo (keeps_narrow (omega arith) (omega arith) entered_keeps))) (omega arith) h M

    pub try_memo : Memo book ws x.programs left → MemoStepped book ws₃ left (outcome_of x made n l u)
    unfolding MemoStepped
    try_memo M = by u.how refl
      where
        by : (how : How) → u.how ≡ how → MemoStepped book ws₃ left (outcome_of x made n l u)
        by Done h = rw (← outcome_done x made n l u h) (memo_still (left - (u.used + 1)) (omega arith) M)
        by Failed h = rw (← outcome_failed x made n l u h) (memo_still (left - (u.used + 1)) (omega arith) M)
        by (Stopped m) h = rw (← outcome_stopped x made n l u m h) tt

    sound_after : Sound book ws₃ (tops_of (regs_of x made n l.cells u.trail (Some (branch_from x l.cell))))
    sound_after = enters_sound book (tops_with x x.made l n) ws₂ ws₃ X.a X.e c o (left - 1) u D.sound E

    waiting_after : Waiting book ws₃ (tops_of (regs_of x made n l.cells u.trail (Some (branch_from x l.cell)))) behind
    waiting_after = waiting_enters book (tops_with x x.made l n) ws₂ ws₃ X.a X.e c o (left - 1) u D.sound E (D.waiting N.waiting)

    -- the cells and the programs are not touched by entering
    abbrev lists : Tops
    lists = record { made = 0; trail = 0; cells = l.cells; programs = x.programs; alternatives = 0 }

    agree_lists : Agree lists ws₂ ws₃
    agree_lists = record {
      slots = record { size = entered_keeps.size; same = λ i a b. absurd (omega arith) };
      trail = record { size = entered_keeps.size; same = λ i a b. absurd (omega arith) };
      cells = keeps_narrow (omega arith) (omega (arith, D.sound.cells_most)) entered_keeps;
      programs = keeps_narrow (omega arith) (omega (arith, D.sound.programs_most)) entered_keeps;
      alternatives = record { size = entered_keeps.size; same = λ i a b. absurd (omega arith) };
    }

    branch_after_lem : IsBranch book ws₃ (tops_of (regs_of x made n l.cells u.trail (Some (branch_from x l.cell)))) l.cell x.taken (eqb x.supposed 1) after
    branch_after_lem = record {
      goals = goals_agree agree_lists (omega arith) (omega arith) D.goals;
      store = refl;
      taken_same = X.again.there.taken_same;
      supposed_same = X.again.there.supposed_same ∙ sym (flag_back X.again.supposed x.supposed X.again.flagged);
      cells_few = D.few;
      programs_few = X.again.there.programs_few;
      alternatives_few = omega (arith, N.most, X.again.few);
    }

    -- the threads, with the clause by its record
    abbrev entry : Thread
    entry = entering X.b (atom_of book X.a X.e X.program) (force_here book c o) cs

    threads_are : threads ≡ entry ∷ X.ts
    threads_are = X.is ∙ ap (λ (f : Force). entering X.b (atom_of book X.a X.e X.program) f cs ∷ X.ts) (clause_now_lem book R A ws k x threads X).is

    from_here : (q : Request) (y : Tally) (ls : List Line) → run_on q left y ls threads ≡ run_on q (suc (left - 1)) y ls (entry ∷ X.ts)
    from_here q y ls = let z : left ≡ suc (left - 1) = omega arith in ap (run_on q left y ls) threads_are ∙ ap (λ (m : ℕ). run_on q m y ls (entry ∷ X.ts)) z

    to_there : left - 1 - u.used ≡ left - (u.used + 1)
    to_there = omega arith

    module _ (r : Regs) (back : r.branch ≡ None) where
      gives_done : u.how ≡ Done → StepGives book ws ws₃ r left threads (Onward (u.used + 1) (regs_of x made n l.cells u.trail (Some (branch_from x l.cell))))
      gives_done h =
          steps_on {r' = regs_of x made n l.cells u.trail (Some (branch_from x l.cell))} {used = u.used + 1} (omega (arith, used_most)) (omega arith) steps_keep (goal_in_hand refl sound_after branch_after_lem waiting_after)
          (λ q y ls. from_here q y ls
          ∙ entered_done book A.formed x.made x.trail ws₂ ws₃ X.a X.e c o (left - 1) u enter_now E (clause_now_lem book R A ws k x threads X).kind X.b store_now X.program cs q y ls X.ts h
          ∙ ap (λ (m : ℕ). run_on q m (spent_units (u.used + 1) y) ls (solving after ∷ behind)) to_there)

      gives_failed : u.how ≡ Failed → StepGives book ws ws₃ r left threads (Onward (u.used + 1) (regs_of x made n l.cells u.trail None))
      gives_failed h =
          steps_on {r' = regs_of x made n l.cells u.trail None} {used = u.used + 1} (omega (arith, used_most)) (omega arith) steps_keep (going_back refl sound_after waiting_after)
          (λ q y ls. from_here q y ls
          ∙ entered_failed book A.formed x.made x.trail ws₂ ws₃ X.a X.e c o (left - 1) u enter_now E (clause_now_lem book R A ws k x threads X).kind X.b store_now X.program cs q y ls X.ts h
          ∙ ap (λ (m : ℕ). run_on q m (spent_units (u.used + 1) y) ls behind) to_there)

      gives_stopped : (m : Limit) → u.how ≡ Stopped m → StepGives book ws ws₃ r left threads (Finished (StoppedEnding m) (u.used + 1))
      gives_stopped m h =
          steps_end {used = u.used + 1} (omega (arith, used_most)) steps_keep.index.size
          (λ q y ls. from_here q y ls
          ∙ entered_stopped book A.formed x.made x.trail ws₂ ws₃ X.a X.e c o (left - 1) u enter_now E (clause_now_lem book R A ws k x threads X).kind X.b store_now X.program cs q y ls X.ts m h)

      pub try_gives : StepGives book ws ws₃ r left threads (outcome_of x made n l u)
      try_gives = by u.how refl
        where
          by : (how : How) → u.how ≡ how → StepGives book ws ws₃ r left threads (outcome_of x made n l u)
          by Done h = rw (← outcome_done x made n l u h) (gives_done h)
          by Failed h = rw (← outcome_failed x made n l u h) (gives_failed h)
          by (Stopped m) h = rw (← outcome_stopped x made n l u m h) (gives_stopped m h)
