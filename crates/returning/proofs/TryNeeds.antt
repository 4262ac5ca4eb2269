-- What the code of trying a candidate knows at each of its calls.
use mathlib.Core.Path.{◌≡◌, refl, ◌∙◌, ap}
use mathlib.Core.List.{List}
use Prim.Native.Nat.{ℕ, ◌+◌, ◌-◌, ◌/◌, ◌%◌, ◌≤◌, ◌<◌}
use native.Mathlib.Omega.{arith}
use Rattle.std.proofs.Common.{None}
use Rattle.book.specs.Records.{field, records}
use Rattle.book.proofs.Accepted.{Accepted}
use Rattle.machine.specs.declared.Limit.TheVariants.{Variables}
use Rattle.machine.specs.declared.Ending.TheVariants.{Stopped as StoppedEnding}
use Rattle.machine.specs.Machine.{Thread}
use Rattle.words.specs.Readable.{Readable}
use Rattle.unifier.specs.declared.Unified.{Unified}
use Rattle.branch.specs.declared.Back.{Back}
use Rattle.steps.specs.declared.Regs.{Regs}
use Rattle.steps.specs.declared.Stepped.{Stepped}
use Rattle.steps.specs.declared.Stepped.TheVariants.{Finished}
use Rattle.steps.specs.Enters.{EnterReady, Enters}
use Rattle.seeking.specs.Memo.{Memo}
use Rattle.steps.specs.Search.{StepGives, MemoStepped}
use Rattle.returning.specs.declared.InForce.{InForce}
use Rattle.returning.specs.declared.Front.{Front}
use Rattle.returning.specs.Returns.{ToClause}
use Rattle.returning.specs.Reentry.{place_of, Renewed, body_words, front_of, outcome_of}
use Rattle.returning.proofs.RenewLaws.{atom_record, atom_base, goals_below}
use Rattle.returning.proofs.CandidateLaws.{clause_now, outer_now, clause_now_lem, too_many}
use Rattle.returning.proofs.BodyGoals.{Ready, body_ready}
use Rattle.returning.proofs.TryLaws.{enter_now, used_most, try_memo, try_gives}

-- the code has the place in p and the clause's number of variables in v
module _ (book : List ℕ) (R : Readable book) (A : Accepted book) (ws : List ℕ) (k : ℕ) (x : Back) (threads : List Thread) (X : ToClause book ws k x threads)
    (p : InForce) (pe : p ≡ place_of book ws x.node x.index) where
  pub clause_inside : p.clause < records book
  clause_inside = rw pe (clause_now_lem book R A ws k x threads X).inside

  module _ (v : ℕ) (ve : v ≡ field book p.clause 1) where
    made_is : x.made + v ≡ x.made + field book (clause_now book R A ws k x threads X) 1
    made_is = rw (ve, pe) refl

    pub over : (r : Regs) (left : ℕ) → 0 < left → 2048 < x.made + v → StepGives book ws ws r left threads (Finished (StoppedEnding Variables) 0)
    over r left l h = too_many book R A ws k x threads X r left l (rw made_is at h)

    module _ (h : x.made + v ≤ 2048) (ws₁ : List ℕ) (n : ℕ) (N : (ts : List Thread) (Y : ToClause book ws k x ts) → Renewed book ws ws₁ k x ts Y n) where
      room_is : x.made + field book (clause_now book R A ws k x threads X) 1 ≤ 2048
      room_is = rw made_is at h

      pub put_ready : (p.clause < records book) × (x.made < 4096) × (x.cells < 1026) × (x.call < 4096) × (x.cell < 4096)
      put_ready =
          let S = X.again.sound in (
            clause_inside,
            omega (arith, S.slots.room),
            omega (arith, X.with.room, X.with.most),
            omega (arith, X.with.called),
            omega (arith, goals_below S.cells_some X.again.there.goals, S.cells_most),
          )

      module _ (ws₂ : List ℕ) (l : Front) (we : ws₂ ≡ body_words book p.clause x ws₁) (le : l ≡ front_of book p.clause x) where
        ready_is : Ready book R A ws k x threads X ws₁ n (N threads X) room_is ws₂ l
        ready_is =
            let w : ws₂ ≡ body_words book (clause_now book R A ws k x threads X) x ws₁ = we ∙ ap (λ (q : InForce). body_words book q.clause x ws₁) pe in
            let f : l ≡ front_of book (clause_now book R A ws k x threads X) x = le ∙ ap (λ (q : InForce). front_of book q.clause x) pe in
            rw (w, f) (body_ready book R A ws k x threads X ws₁ n (N threads X) room_is)

        pub enter_ready_is : EnterReady book x.made x.trail ws₂ (x.atom / 4096 - 1) (x.atom % 4096) p.clause p.outer
        enter_ready_is =
            rw (pe, atom_record book ws k x threads X, atom_base book ws k x threads X) (enter_now book R A ws k x threads X ws₁ n (N threads X) room_is ws₂ l ready_is)

        module _ (ws₃ : List ℕ) (left : ℕ) (u : Unified) (some : 0 < left) (E : Enters book x.made x.trail ws₂ ws₃ (x.atom / 4096 - 1) (x.atom % 4096) p.clause p.outer (left - 1) u) where
          enters_is : Enters book x.made x.trail ws₂ ws₃ X.a X.e (clause_now book R A ws k x threads X) (outer_now book R A ws k x threads X) (left - 1) u
          enters_is = rw (pe, atom_record book ws k x threads X, atom_base book ws k x threads X) at E

          pub units_fit : u.used + 1 ≤ left
          units_fit = omega (arith, used_most book R A ws k x threads X ws₁ n (N threads X) room_is ws₂ l ready_is ws₃ left u some enters_is)

          pub tried_memo : (made : ℕ) → made ≡ x.made + v → (s : Stepped) → s ≡ outcome_of x made n l u → Memo book ws x.programs left → MemoStepped book ws₃ left s
          tried_memo made me s se M =
              rw (se, me, made_is) (try_memo book R A ws k x threads X ws₁ n (N threads X) room_is ws₂ l ready_is ws₃ left u some enters_is M)

          pub tried : (r : Regs) → r.branch ≡ None → (made : ℕ) → made ≡ x.made + v → (s : Stepped) → s ≡ outcome_of x made n l u → StepGives book ws ws₃ r left threads s
          tried r back made me s se =
              rw (se, me, made_is) (try_gives book R A ws k x threads X ws₁ n (N threads X) room_is ws₂ l ready_is ws₃ left u some enters_is r back)
