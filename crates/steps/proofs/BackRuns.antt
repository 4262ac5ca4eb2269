-- Entering the clause of an alternative, as a part of the run.
use mathlib.Core.Path.{◌≡◌, refl, ◌∙◌, ap}
use mathlib.Core.List.{List, ◌∷◌, ◌++◌}
use Prim.Native.Nat.{ℕ, suc, ◌+◌, ◌-◌}
use native.Mathlib.Omega.{arith}
use Rattle.book.specs.Records.{field}
use Rattle.book.specs.Kinds.{kind_at, clause_kind}
use Rattle.book.proofs.Accepted.{Formed}
use Rattle.machine.specs.declared.Limit.{Limit}
use Rattle.machine.specs.declared.Ending.TheVariants.{Stopped as StoppedEnding}
use Rattle.machine.specs.declared.Tally.{Tally}
use Rattle.machine.specs.Machine.{Thread, solving, entering, Branch, Force, settle, try_all}
use Rattle.machine.specs.Answers.{Line}
use Rattle.machine.specs.Run.{Request, counted}
use Rattle.words.specs.Words.{store_of}
use Rattle.looks.specs.declared.How.TheVariants.{Done, Failed, Stopped}
use Rattle.unifier.specs.declared.Unified.{Unified}
use Rattle.looks.specs.Moves.{Went, with_store}
use Rattle.steps.specs.Enters.{argument_pairs, EnterReady, Enters}
use Rattle.steps.specs.Search.{run_on, spent_units}
use Rattle.steps.proofs.RunLaws.{unit_on, went_run_done, went_run_failed, went_run_stopped}
use Rattle.steps.proofs.EnterRuns.{atom_here, force_here, branch_here, enter_unit}

spent_more : (k : ℕ) (y : Tally) → spent_units k (counted y) ≡ spent_units (k + 1) y
unfolding spent_units counted
spent_more k y = let z : suc y.units + k ≡ y.units + (k + 1) = omega arith in rw z refl

module _ (book : List ℕ) (F : Formed book) (made trail : ℕ) (ws ws' : List ℕ) (a e c o left : ℕ) (r : Unified) (X : EnterReady book made trail ws a e c o)
    (E : Enters book made trail ws ws' a e c o left r) (k : kind_at book c ≡ clause_kind) (b : Branch) (be : b.store ≡ store_of book ws made) (program : List Force) (cs : List Force)
    (q : Request) (y : Tally) (ls : List Line) (ts : List Thread) where
  -- the branch in hand after the clause's body was put at the front and the pairs were unified
  abbrev pub branch_after : Branch
  branch_after = with_store (branch_here book F made trail ws ws' a e c o left r X E k b be program cs) (store_of book ws' (made + field book c 1))

  abbrev before_unify : Thread
  before_unify = settle (branch_here book F made trail ws ws' a e c o left r X E k b be program cs) (argument_pairs book made a e c)

  abbrev waiting : List Thread
  waiting = try_all b (atom_here book a e program) cs ++ ts

  first_unit : run_on q (suc left) y ls (entering b (atom_here book a e program) (force_here book c o) cs ∷ ts) ≡ run_on q left (counted y) ls (before_unify ∷ waiting)
  first_unit = unit_on q left _ (before_unify ∷ try_all b (atom_here book a e program) cs) ts y ls (enter_unit book F made trail ws ws' a e c o left r X E k b be program cs)

  went : Went before_unify (solving branch_after) left r.how r.used
  unfolding settle
  went = E.ends.went (branch_here book F made trail ws ws' a e c o left r X E k b be program cs) refl

  pub entered_done : r.how ≡ Done → run_on q (suc left) y ls (entering b (atom_here book a e program) (force_here book c o) cs ∷ ts)
      ≡ run_on q (left - r.used) (spent_units (r.used + 1) y) ls (solving branch_after ∷ waiting)
  entered_done h =
      first_unit ∙ went_run_done q left r.used _ _ waiting (counted y) ls went h ∙ ap (λ (z : Tally). run_on q (left - r.used) z ls (solving branch_after ∷ waiting)) (spent_more r.used y)

  pub entered_failed : r.how ≡ Failed → run_on q (suc left) y ls (entering b (atom_here book a e program) (force_here book c o) cs ∷ ts)
      ≡ run_on q (left - r.used) (spent_units (r.used + 1) y) ls waiting
  entered_failed h =
      first_unit ∙ went_run_failed q left r.used _ _ waiting (counted y) ls went h ∙ ap (λ (z : Tally). run_on q (left - r.used) z ls waiting) (spent_more r.used y)

  pub entered_stopped : (m : Limit) → r.how ≡ Stopped m → run_on q (suc left) y ls (entering b (atom_here book a e program) (force_here book c o) cs ∷ ts)
      ≡ record { ending = StoppedEnding m; tally = spent_units (r.used + 1) y; lines = ls }
  entered_stopped m h =
      first_unit ∙ went_run_stopped q left r.used _ _ waiting (counted y) ls m went h ∙ ap (λ (z : Tally). record { ending = StoppedEnding m; tally = z; lines = ls }) (spent_more r.used y)
