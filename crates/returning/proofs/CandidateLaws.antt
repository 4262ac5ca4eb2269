-- The candidate that is tried: its clause in the book, whether it can be entered, and the limit of variables.
use mathlib.Core.Path.{◌≡◌, refl, sym, ◌∙◌, ap}
use mathlib.Core.Bool.{Bool, true, false}
use mathlib.Core.List.{List, ◌∷◌}
use Prim.Native.Nat.{ℕ, suc, ◌+◌, ◌-◌, ◌≤◌, ◌<◌}
use native.Mathlib.Omega.{arith}
use borrow.Author.Tests.{lt-leb}
use lib.ListN.{length}
use Rattle.book.specs.Records.{field}
use Rattle.book.specs.Tree.{variables_of}
use Rattle.book.specs.Decode.{clause_of}
use Rattle.book.proofs.Accepted.{Accepted}
use Rattle.book.proofs.Unfolding.{clause_variables}
use Rattle.machine.specs.declared.Limit.TheVariants.{Budget, Variables}
use Rattle.machine.specs.declared.Ending.TheVariants.{Stopped as StoppedEnding}
use Rattle.machine.specs.declared.Tally.{Tally}
use Rattle.machine.specs.Machine.{Thread, entering, Force, stop, advance, enter, candidates}
use Rattle.words.specs.Readable.{Readable}
use Rattle.words.specs.Good.{Slots}
use Rattle.words.specs.Frame.{TrailFits}
use Rattle.branch.specs.declared.Back.{Back}
use Rattle.index.specs.Runs.{head_matches}
use Rattle.branch.proofs.StateLaws.{store_made}
use Rattle.branch.proofs.ClauseLaws.{ClauseHere}
use Rattle.seeking.proofs.SeekLaws.{clause_candidate}
use Rattle.steps.specs.declared.Regs.{Regs}
use Rattle.steps.specs.declared.Stepped.TheVariants.{Finished}
use Rattle.steps.specs.Enters.{EnterReady}
use Rattle.steps.specs.Search.{StepGives, StepGives.steps_end}
use Rattle.steps.proofs.RunLaws.{none_spent, unit_stop, unit_none}
use Rattle.steps.proofs.ReadyLaws.{enter_ready}
use Rattle.returning.specs.Returns.{Leads, atom_of, ToClause}
use Rattle.returning.specs.Reentry.{place_of}
use Rattle.returning.proofs.PlaceLaws.{place_here}

-- a list is not longer than itself
not_longer : {T : Type 0} (z : T) (l : List T) → l ≡ z ∷ l → ⊥
not_longer z l e = let h : length l ≡ suc (length l) = ap length e in omega arith

module _ (book : List ℕ) (R : Readable book) (A : Accepted book) (ws : List ℕ) (k : ℕ) (x : Back) (threads : List Thread) (X : ToClause book ws k x threads) where
  pub leads : Leads book ws x
  leads = record { f = X.f; after = X.after; clause = X.with.clause; few = X.again.sound.programs_most }

  -- its record, and where the variables of its suppose goal's holder begin
  abbrev pub clause_now : ℕ
  clause_now = (place_of book ws x.node x.index).clause

  abbrev pub outer_now : ℕ
  outer_now = (place_of book ws x.node x.index).outer

  pub clause_now_lem : ClauseHere book x.made X.f clause_now outer_now
  clause_now_lem = place_here book R A ws x.made x.programs x.node x.index X.f X.after X.with.clause

  pub head_matches_lem : head_matches book (field book X.a 1) (field book X.a 2) clause_now ≡ true
  head_matches_lem = go (head_matches book (field book X.a 1) (field book X.a 2) clause_now) refl
    where
      go : (t : Bool) → head_matches book (field book X.a 1) (field book X.a 2) clause_now ≡ t → t ≡ true
      go true e = refl
      go false e =
          let H = clause_now_lem in
          let d = clause_candidate book A.formed (field book X.a 1) (field book X.a 2) clause_now outer_now X.after H.inside H.kind in
          let z : candidates (field book X.a 1) (field book X.a 2) (record { text = clause_of book clause_now; outer = outer_now } ∷ X.after) ≡ candidates (field book X.a 1) (field book X.a 2) X.after = d ∙ rw e refl in
          absurd (not_longer X.f _ (sym z ∙ rw (← H.is) X.with.first))

  -- it can be entered, wherever the slots and the trail are sound
  pub can_enter : (ws' : List ℕ) → Slots book x.made ws' → TrailFits x.made x.trail ws' → x.made + field book clause_now 1 ≤ 2048
      → EnterReady book x.made x.trail ws' X.a X.e clause_now outer_now
  can_enter ws' S T room =
      let H = clause_now_lem in
      enter_ready book A x.made x.trail ws' X.a X.e clause_now outer_now H.n S T X.with.kind X.with.here X.with.base H.inside H.kind H.scoped H.room head_matches_lem room

  -- THE LIMIT: an entry would make more than 2,048 variables on the branch
  pub made_now_lem : length X.b.store ≡ x.made
  made_now_lem = store_made X.again.sound X.again.there

  pub variables_now : variables_of X.f.text ≡ field book clause_now 1
  variables_now = rw clause_now_lem.is (clause_variables book A.formed clause_now clause_now_lem.inside clause_now_lem.kind)

  full : 2048 < x.made + field book clause_now 1 → (cs : List Force) → advance (entering X.b (atom_of book X.a X.e X.program) X.f cs) ≡ stop Variables
  unfolding advance enter
  full h cs = rw (enter, made_now_lem, variables_now, lt-leb (x.made + field book clause_now 1) 2048 h) refl

  module _ (r : Regs) (left : ℕ) where
    pub too_many : 0 < left → 2048 < x.made + field book clause_now 1 → StepGives book ws ws r left threads (Finished (StoppedEnding Variables) 0)
    too_many l h =
        let z : left ≡ suc (left - 1) = omega arith in
        steps_end {used = 0} (omega arith) refl
        (λ q y ls. rw (X.is, z) (unit_stop q (left - 1) _ Variables X.ts y ls (full h _)) ∙ ap (λ (t : Tally). record { ending = StoppedEnding Variables; tally = t; lines = ls }) (none_spent y))

    pub no_budget : left ≡ 0 → StepGives book ws ws r left threads (Finished (StoppedEnding Budget) 0)
    no_budget e =
        steps_end {used = 0} (omega arith) refl
        (λ q y ls. rw (X.is, e) (unit_none q _ X.ts y ls) ∙ ap (λ (t : Tally). record { ending = StoppedEnding Budget; tally = t; lines = ls }) (none_spent y))
