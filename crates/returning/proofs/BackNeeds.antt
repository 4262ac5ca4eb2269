-- Going back, as the code does it: what it needs, and what the step gives.
use mathlib.Core.Path.{◌≡◌, refl, sym, ◌∙◌, ap}
use mathlib.Core.List.{List, ◌∷◌}
use Prim.Native.Nat.{ℕ, ◌-◌, ◌≤◌}
use native.Mathlib.Omega.{arith}
use native.Mathlib.Nat.{sub-zero}
use lib.Dec.{eqb}
use Rattle.std.proofs.Common.{Some, None}
use Rattle.machine.specs.declared.Ending.{Ending}
use Rattle.machine.specs.declared.Tally.{Tally}
use Rattle.machine.specs.Machine.{Thread, solving}
use Rattle.words.specs.Frame.{undo}
use Rattle.words.proofs.StackLaws.{keeps_narrow}
use Rattle.seeking.proofs.SeekChain.{all_same}
use Rattle.seeking.specs.Seeking.{AllIndexed}
use Rattle.seeking.specs.Memo.{Memo}
use Rattle.seeking.proofs.MemoLaws.{memo_kept}
use Rattle.steps.proofs.RunLaws.{none_spent}
use Rattle.steps.proofs.LeaveLaws.{leaves_between}
use Rattle.words.proofs.FrameLaws.{undo_keeps}
use Rattle.branch.specs.declared.Back.{Back}
use Rattle.branch.specs.State.{OwnReady, IsBranch}
use Rattle.branch.specs.Alternatives.{back_of, BackReady}
use Rattle.steps.specs.declared.Regs.{Regs}
use Rattle.steps.specs.declared.Stepped.{Stepped}
use Rattle.steps.specs.declared.Stepped.TheVariants.{Onward, Finished}
use Rattle.steps.specs.Search.{run_on, spent_units, tops_of, Leaves, Stands, Stands.goal_in_hand, StepGives, StepGives.steps_on, MemoStepped}
use Rattle.returning.specs.Returns.{ToClause, Returned, Returned.to_goal, Returned.to_clause}
use Rattle.returning.specs.Reentry.{branch_from, regs_kept, Tries}
use Rattle.returning.specs.declared.Reached.{Reached}
use Rattle.returning.specs.declared.Reached.TheVariants.{Onward as ReachedOn, Finished as ReachedEnd, Clause}
use Rattle.returning.specs.Passing.{later_by}
use Rattle.returning.specs.Reaching.{ReachGives, ReachGives.reach_on, ReachGives.reach_end, ReachGives.reach_clause, CanGoOn, CanGoOn.is_on, CanGoOn.is_end, CanGoOn.is_clause, GoesOn, MemoReached}
use Rattle.returning.proofs.PassLaws.{pass_none, after_pass, gives_from}
use Rattle.returning.proofs.RenewLaws.{atom_large}
use Rattle.returning.proofs.TryLaws.{flag_back}
use Rattle.returning.proofs.ReturnLaws.{stands_back, Newest, newest, newest_programs, returned}

module _ (book : List ℕ) (ws : List ℕ) (r : Regs) (threads : List Thread) (e : r.branch ≡ None) (Z : Stands book ws r threads) (some : r.alternatives ≡ 0 → ⊥) where
  abbrev k : ℕ
  k = r.alternatives - 1

  last : Newest book ws (tops_of r) k threads
  last = newest k (omega arith) (stands_back e Z).0 (stands_back e Z).1

  pub back_ready : BackReady ws k r.trail
  back_ready = last.resumed.ready

  module _ (x : Back) (ws₁ : List ℕ) (xe : x ≡ back_of ws k) (we : ws₁ ≡ undo (r.trail - (back_of ws k).trail) (back_of ws k).trail ws) where
    stays : Leaves ws ws₁
    stays = rw we (leaves_between {lo = 2048} (omega arith) (keeps_narrow (omega arith) (omega arith) (undo_keeps (r.trail - (back_of ws k).trail) (back_of ws k).trail ws back_ready.small)))

    here : Returned book ws₁ k x threads
    here = rw (we, xe, last.is) (returned book ws (tops_of r) k last.thread last.ts last.resumed)

    -- going back has the programs of before
    memo_back : (left : ℕ) → Memo book ws r.programs left → Memo book ws₁ x.programs (left - 0)
    memo_back left M =
        let U = undo_keeps (r.trail - (back_of ws k).trail) (back_of ws k).trail ws back_ready.small in
        let h = newest_programs k (omega arith) (stands_back e Z).1 in
        let S = (stands_back e Z).0 in
        rw (we, xe) (memo_kept (keeps_narrow (omega arith) (omega (arith, S.programs_most)) U) (keeps_narrow (omega arith) (omega arith) U) h (omega arith) M)

    clause_here : (x.atom ≡ 0 → ⊥) → ToClause book ws₁ k x threads
    clause_here h = go here
      where
        go : {us : List Thread} → Returned book ws₁ k x us → ToClause book ws₁ k x us
        go (to_goal z G) = absurd (h z)
        go (to_clause X) = X

    module _ (left : ℕ) where
      -- the right side of an or, which takes no unit
      pub goal_again : (s : Regs) → s ≡ regs_kept x k (Some (branch_from x x.cell)) → x.atom ≡ 0 → StepGives book ws ws₁ r left threads (Onward 0 s)
      goal_again s se h = rw se (go here)
        where
          go : {us : List Thread} → Returned book ws₁ k x us → StepGives book ws ws₁ r left us (Onward 0 (regs_kept x k (Some (branch_from x x.cell))))
          go {us} (to_goal {b = b} {ts = ts} z G) =
              let B : IsBranch book ws₁ (tops_of (regs_kept x k (Some (branch_from x x.cell)))) x.cell x.taken (eqb x.supposed 1) b =
              rw (flag_back G.supposed x.supposed G.flagged) G.there in
              steps_on {r' = regs_kept x k (Some (branch_from x x.cell))} {used = 0} {threads' = solving b ∷ ts} (omega arith) (rw e (omega arith)) stays
              (goal_in_hand refl G.sound B G.waiting)
              (λ q y ls. ap (λ (t : Tally). run_on q left t ls (solving b ∷ ts)) (none_spent y) ∙ ap (λ (n : ℕ). run_on q n (spent_units 0 y) ls (solving b ∷ ts)) (sym (sub-zero left)))
          go (to_clause {threads = us} X) = absurd (omega (arith, atom_large book ws₁ k x us X))

      pub goal_memo : (s : Regs) → s ≡ regs_kept x k (Some (branch_from x x.cell)) → Memo book ws r.programs left → MemoReached book ws₁ left (ReachedOn 0 s)
      unfolding MemoReached
      goal_memo s se M = rw se (memo_back left M)

      pub clause_memo : Memo book ws r.programs left → MemoReached book ws₁ left (Clause 0 x k)
      unfolding MemoReached
      clause_memo M = memo_back left M

      pub clause_reached : (x.atom ≡ 0 → ⊥) → ReachGives book ws ws₁ r left threads (Clause 0 x k)
      clause_reached h = reach_clause {x = x} {k = k} {used = 0} {threads' = threads} (omega arith) (rw e (omega arith)) stays (clause_here h) (pass_none left threads)

-- none left: nothing to remember
pub memo_done : (book ws : List ℕ) (left used : ℕ) (d : Ending) → MemoReached book ws left (ReachedEnd d used)
unfolding MemoReached
memo_done book ws left used d = tt

-- GOING ON
module _ {book ws ws' : List ℕ} {left : ℕ} where
  pub on_on : (n : ℕ) (s : Regs) (o : Reached) → o ≡ ReachedOn n s → ws' ≡ ws → GoesOn book ws ws' left o (Onward n s)
  on_on n s o d w ws₀ r threads G = go G d
    where
      go : {o : Reached} → ReachGives book ws₀ ws r left threads o → o ≡ ReachedOn n s → StepGives book ws₀ ws' r left threads (Onward n s)
      go (reach_on {r' = t} {used = m} S) e = let ne : m ≡ n = cc in let z : t ≡ s = cc in rw (w, ← ne, ← z) S
      go (reach_end S) e = let z : ◌≡◌ {A = ℕ} 0 1 = cc in absurd (omega arith)
      go (reach_clause a b c X P) e = let z : ◌≡◌ {A = ℕ} 0 1 = cc in absurd (omega arith)

  pub on_end : (d : Ending) (n : ℕ) (o : Reached) → o ≡ ReachedEnd d n → ws' ≡ ws → GoesOn book ws ws' left o (Finished d n)
  on_end d n o i w ws₀ r threads G = go G i
    where
      go : {o : Reached} → ReachGives book ws₀ ws r left threads o → o ≡ ReachedEnd d n → StepGives book ws₀ ws' r left threads (Finished d n)
      go (reach_on S) e = let z : ◌≡◌ {A = ℕ} 0 1 = cc in absurd (omega arith)
      go (reach_end {e = f} {used = m} S) e = let fe : f ≡ d = cc in let ne : m ≡ n = cc in rw (w, ← fe, ← ne) S
      go (reach_clause a b c X P) e = let z : ◌≡◌ {A = ℕ} 0 1 = cc in absurd (omega arith)

  pub on_clause : (n : ℕ) (x : Back) (j : ℕ) (s t : Stepped) (o : Reached) → o ≡ Clause n x j → Tries book ws ws' j x (left - n) s → t ≡ later_by n s → GoesOn book ws ws' left o t
  on_clause n x j s t o d T l ws₀ r threads G = rw l (go G d)
    where
      go : {o : Reached} → ReachGives book ws₀ ws r left threads o → o ≡ Clause n x j → StepGives book ws₀ ws' r left threads (later_by n s)
      go (reach_on S) e = let z : ◌≡◌ {A = ℕ} 0 1 = cc in absurd (omega arith)
      go (reach_end S) e = let z : ◌≡◌ {A = ℕ} 0 1 = cc in absurd (omega arith)
      go (reach_clause {x = y} {k = i} {used = m} {threads' = us} a b L X P) e =
          let xe : y ≡ x = cc in
          let ke : i ≡ j = cc in
          let ne : m ≡ n = cc in
          gives_from L (after_pass {r₀ = regs_kept x j None} (rw (← ne) a) (omega (arith, b, ne)) (rw ne at P) (T (regs_kept x j None) us refl (rw (xe, ke) at X)))

-- the memo
module _ (book ws : List ℕ) (left n : ℕ) where
  pub memo_on : (s : Regs) (o : Reached) → o ≡ ReachedOn n s → MemoReached book ws left o → MemoStepped book ws left (Onward n s)
  unfolding MemoReached MemoStepped
  memo_on s o d M = rw d at M

  pub memo_asked : (x : Back) (j : ℕ) (o : Reached) → o ≡ Clause n x j → MemoReached book ws left o → Memo book ws x.programs (left - n)
  unfolding MemoReached
  memo_asked x j o d M = rw d at M

-- what it asks for
module _ {book ws : List ℕ} {left : ℕ} where
  pub can_go_on : {o : Reached} {ws₀ : List ℕ} {r : Regs} {threads : List Thread} → OwnReady book 0 → AllIndexed book ws₀ → ReachGives book ws₀ ws r left threads o → CanGoOn book ws left o
  can_go_on O I (reach_on S) = is_on
  can_go_on O I (reach_end S) = is_end
  can_go_on O I (reach_clause {threads' = us} a b L X P) = is_clause {threads = us} a (all_same book O L.index L.free I) X

  pub clause_asked : (n : ℕ) (x : Back) (j : ℕ) (o : Reached) → CanGoOn book ws left o → o ≡ Clause n x j → (n ≤ left) × AllIndexed book ws × ((threads : List Thread) × ToClause book ws j x threads)
  clause_asked n x j o (is_clause {x = y} {k = i} {used = m} {threads = us} a I X) e =
      let xe : y ≡ x = cc in
      let ke : i ≡ j = cc in
      let ne : m ≡ n = cc in
      (rw (← ne) a, I, (us, rw (xe, ke) at X))
  clause_asked n x j o is_on e = let z : ◌≡◌ {A = ℕ} 0 1 = cc in absurd (omega arith)
  clause_asked n x j o is_end e = let z : ◌≡◌ {A = ℕ} 0 1 = cc in absurd (omega arith)
