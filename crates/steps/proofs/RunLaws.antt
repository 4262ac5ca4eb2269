-- Parts of a run.
use mathlib.Core.Path.{◌≡◌, refl, sym, ◌∙◌, ap}
use mathlib.Core.List.{List, [], ◌∷◌, ◌++◌}
use Prim.Native.Nat.{ℕ, suc, ◌+◌, ◌-◌, ◌≤◌, ◌<◌}
use native.Mathlib.Omega.{arith}
use native.Mathlib.Nat.{add-zero}
use Rattle.machine.specs.declared.Limit.{Limit}
use Rattle.machine.specs.declared.Limit.TheVariants.{Budget}
use Rattle.machine.specs.declared.Ending.TheVariants.{Stopped as StoppedEnding}
use Rattle.machine.specs.declared.Tally.{Tally}
use Rattle.machine.specs.Machine.{Thread, on, stop, advance}
use Rattle.machine.specs.Answers.{Line}
use Rattle.machine.specs.Run.{Request, State, Outgoing, next, ended, counted, go_on, after, step, run}
use Rattle.looks.specs.declared.How.{How}
use Rattle.looks.specs.declared.How.TheVariants.{Done, Failed, Stopped}
use Rattle.looks.specs.Moves.{Moves, Went, Went.done, Went.fails, Went.full, Went.spent}
use Rattle.looks.proofs.MoveLaws.{run_moves, units_more}
use Rattle.steps.specs.declared.Regs.{Regs}
use Rattle.steps.specs.declared.Stepped.{Stepped}
use Rattle.steps.specs.Search.{run_out, run_on, spent_units, units_of, StepGives, StepGives.steps_on, StepGives.steps_end}

abbrev pub at_thread : Thread → List Thread → Tally → List Line → State
at_thread t ts y ls = record { thread = t; waiting = ts; tally = y; lines = ls }

pub none_spent : (y : Tally) → y ≡ spent_units 0 y
unfolding spent_units
none_spent y = rw (add-zero y.units) refl

-- the units of a step are within what is left
pub units_most : {book ws ws' : List ℕ} {r : Regs} {left : ℕ} {threads : List Thread} {s : Stepped} → StepGives book ws ws' r left threads s → units_of s ≤ left
units_most (steps_on a b c d e) = a
units_most (steps_end a b c) = a

module _ (q : Request) where
  pub run_step : (n : ℕ) (s : State) → run q (suc n) s ≡ run_out q n (step q s)
  unfolding run run_out
  run_step n s = go (step q s) refl
    where
      go : (o : Outgoing) → step q s ≡ o → run q (suc n) s ≡ run_out q n o
      go (next t) e = rw (run, e) refl
      go (ended a y ls) e = rw (run, e) refl

  step_on : (t : Thread) (us ts : List Thread) (y : Tally) (ls : List Line) → advance t ≡ on us → step q (at_thread t ts y ls) ≡ go_on (counted y) ls (us ++ ts)
  unfolding step after
  step_on t us ts y ls e = rw e refl

  step_stop : (t : Thread) (m : Limit) (ts : List Thread) (y : Tally) (ls : List Line) → advance t ≡ stop m → step q (at_thread t ts y ls) ≡ ended (StoppedEnding m) y ls
  unfolding step after
  step_stop t m ts y ls e = rw e refl

  pub run_first : (n : ℕ) (t : Thread) (ts : List Thread) (y : Tally) (ls : List Line) → run_on q n y ls (t ∷ ts) ≡ run q n (at_thread t ts y ls)
  unfolding run_on go_on run_out
  run_first n t ts y ls = refl

  -- one unit that gives threads
  pub unit_on : (n : ℕ) (t : Thread) (us ts : List Thread) (y : Tally) (ls : List Line) → advance t ≡ on us → run_on q (suc n) y ls (t ∷ ts) ≡ run_on q n (counted y) ls (us ++ ts)
  unfolding run_on
  unit_on n t us ts y ls e = run_first (suc n) t ts y ls ∙ run_step n (at_thread t ts y ls) ∙ ap (run_out q n) (step_on t us ts y ls e)

  -- one unit that meets a limit
  pub unit_stop : (n : ℕ) (t : Thread) (m : Limit) (ts : List Thread) (y : Tally) (ls : List Line) → advance t ≡ stop m
      → run_on q (suc n) y ls (t ∷ ts) ≡ record { ending = StoppedEnding m; tally = y; lines = ls }
  unfolding run_out
  unit_stop n t m ts y ls e = run_first (suc n) t ts y ls ∙ run_step n (at_thread t ts y ls) ∙ ap (run_out q n) (step_stop t m ts y ls e)

  -- no unit left
  pub unit_none : (t : Thread) (ts : List Thread) (y : Tally) (ls : List Line) → run_on q 0 y ls (t ∷ ts) ≡ record { ending = StoppedEnding Budget; tally = y; lines = ls }
  unfolding run
  unit_none t ts y ls = run_first 0 t ts y ls

  more_units : (n : ℕ) (y : Tally) → units_more n y ≡ spent_units n y
  unfolding units_more spent_units
  more_units n y = refl

  pub moves_run : (left n : ℕ) (t u : Thread) (ts : List Thread) (y : Tally) (ls : List Line) → n ≤ left → Moves t n u → run_on q left y ls (t ∷ ts) ≡ run_on q (left - n) (spent_units n y) ls (u ∷ ts)
  moves_run left n t u ts y ls h p =
      let e : left ≡ n + (left - n) = omega arith in
      run_first left t ts y ls ∙ ap (λ (k : ℕ). run q k (at_thread t ts y ls)) e ∙ run_moves q t u n (left - n) ts y ls p
      ∙ ap (λ (z : Tally). run q (left - n) (at_thread u ts z ls)) (more_units n y) ∙ sym (run_first (left - n) u ts (spent_units n y) ls)

  spent_counted : (n k : ℕ) (y : Tally) → k ≡ suc n → counted (spent_units n y) ≡ spent_units k y
  unfolding counted spent_units
  spent_counted n k y e = let z : suc (y.units + n) ≡ y.units + k = omega arith in rw z refl

  -- HOW A PART OF THE RUN THAT ENDS SO GOES ON
  pub went_run_done : (left k : ℕ) (t w : Thread) (ts : List Thread) (y : Tally) (ls : List Line) {how : How} → Went t w left how k → how ≡ Done
      → run_on q left y ls (t ∷ ts) ≡ run_on q (left - k) (spent_units k y) ls (w ∷ ts)
  went_run_done left k t w ts y ls (done p h) e = moves_run left k t w ts y ls h p
  went_run_done left k t w ts y ls (fails p a d l) e = let c : ◌≡◌ {A = ℕ} 0 1 = cc in absurd (omega arith)
  went_run_done left k t w ts y ls (full p a l) e = let c : ◌≡◌ {A = ℕ} 0 1 = cc in absurd (omega arith)
  went_run_done left k t w ts y ls (spent p d) e = let c : ◌≡◌ {A = ℕ} 0 1 = cc in absurd (omega arith)

  pub went_run_failed : (left k : ℕ) (t w : Thread) (ts : List Thread) (y : Tally) (ls : List Line) {how : How} → Went t w left how k → how ≡ Failed
      → run_on q left y ls (t ∷ ts) ≡ run_on q (left - k) (spent_units k y) ls ts
  went_run_failed left k t w ts y ls (fails {n = n} {u = u} p a d l) e =
      let z : left - n ≡ suc (left - k) = omega arith in
      moves_run left n t u ts y ls (omega arith) p ∙ ap (λ (m : ℕ). run_on q m (spent_units n y) ls (u ∷ ts)) z
      ∙ unit_on (left - k) u [] ts (spent_units n y) ls a ∙ ap (λ (x : Tally). run_on q (left - k) x ls ts) (spent_counted n k y d)
  went_run_failed left k t w ts y ls (done p h) e = let c : ◌≡◌ {A = ℕ} 0 1 = cc in absurd (omega arith)
  went_run_failed left k t w ts y ls (full p a l) e = let c : ◌≡◌ {A = ℕ} 0 1 = cc in absurd (omega arith)
  went_run_failed left k t w ts y ls (spent p d) e = let c : ◌≡◌ {A = ℕ} 0 1 = cc in absurd (omega arith)

  pub went_run_stopped : (left k : ℕ) (t w : Thread) (ts : List Thread) (y : Tally) (ls : List Line) {how : How} (m : Limit) → Went t w left how k → how ≡ Stopped m
      → run_on q left y ls (t ∷ ts) ≡ record { ending = StoppedEnding m; tally = spent_units k y; lines = ls }
  went_run_stopped left k t w ts y ls m (full {m = x} {u = u} p a l) e =
      let i : x ≡ m = cc in
      let z : left - k ≡ suc (left - k - 1) = omega arith in
      moves_run left k t u ts y ls (omega arith) p ∙ ap (λ (n : ℕ). run_on q n (spent_units k y) ls (u ∷ ts)) z ∙ unit_stop (left - k - 1) u m ts (spent_units k y) ls (rw i at a)
  went_run_stopped left k t w ts y ls m (spent {u = u} p d) e =
      let i : Budget ≡ m = cc in
      let z : left - k ≡ 0 = omega arith in
      rw (← i) (moves_run left k t u ts y ls (omega arith) p ∙ ap (λ (n : ℕ). run_on q n (spent_units k y) ls (u ∷ ts)) z ∙ unit_none u ts (spent_units k y) ls)
  went_run_stopped left k t w ts y ls m (done p h) e = let c : ◌≡◌ {A = ℕ} 0 1 = cc in absurd (omega arith)
  went_run_stopped left k t w ts y ls m (fails p a d l) e = let c : ◌≡◌ {A = ℕ} 0 1 = cc in absurd (omega arith)

pub one_spent : (y : Tally) → counted y ≡ spent_units 1 y
unfolding counted spent_units
one_spent y = let z : suc y.units ≡ y.units + 1 = omega arith in rw z refl

-- one unit that gives threads; that gives one
module _ (left : ℕ) (t : Thread) (threads : List Thread) (h : 0 < left) where
  pub unit_gives : (us : List Thread) → advance t ≡ on us
      → (q : Request) (y : Tally) (ls : List Line) → run_on q left y ls (t ∷ threads) ≡ run_on q (left - 1) (spent_units 1 y) ls (us ++ threads)
  unit_gives us e q y ls =
      let z : left ≡ suc (left - 1) = omega arith in
      ap (λ (n : ℕ). run_on q n y ls (t ∷ threads)) z ∙ unit_on q (left - 1) t us threads y ls e ∙ ap (λ (x : Tally). run_on q (left - 1) x ls (us ++ threads)) (one_spent y)
