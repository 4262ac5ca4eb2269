-- Units in a row.
use mathlib.Core.Path.{◌≡◌, refl, ◌∙◌}
use mathlib.Core.List.{List}
use Prim.Native.Nat.{ℕ, suc, ◌+◌, ◌-◌, ◌≤◌}
use native.Mathlib.Omega.{arith}
use Rattle.machine.specs.declared.Tally.{Tally}
use Rattle.machine.specs.Machine.{Thread, only, advance}
use Rattle.machine.specs.Run.{Request, State, next, counted, go_on, after, step, run}
use Rattle.machine.specs.Answers.{Line}
use Rattle.looks.specs.declared.How.{How}
use Rattle.looks.specs.declared.How.TheVariants.{Done}
use Rattle.looks.specs.Moves.{Moves, Moves.still, Moves.more, Went, Went.done, Went.fails, Went.full, Went.spent}

pub moves_trans : {t u w : Thread} {n m k : ℕ} → Moves t n u → Moves u m w → k ≡ n + m → Moves t k w
moves_trans {n = n} {k = k} p (still {n = m} e) q = let z : k ≡ n = omega arith in rw z p
moves_trans {n = n} {k = k} p (more {n = m} x a e) q = more {n = n + m} {k = k} (moves_trans p x refl) a (omega arith)

pub went_most : {t w : Thread} {left k : ℕ} {how : How} → Went t w left how k → k ≤ left
went_most (done p l) = l
went_most (fails p a e l) = l
went_most (full p a l) = omega arith
went_most (spent p e) = omega arith

-- n units, and then an ending within what is left
pub went_after : {t u w : Thread} {left n k j : ℕ} {how : How} → Moves t n u → n ≤ left → Went u w (left - n) how k → j ≡ n + k → Went t w left how j
went_after {n = n} {j = j} p h (done {n = m} q l) e = done (moves_trans p q e) (omega arith)
went_after {n = n} {j = j} p h (fails {n = m} q a d l) e = fails {n = n + m} {k = j} (moves_trans p q refl) a (omega arith) (omega arith)
went_after {n = n} {j = j} p h (full q a l) e = full (moves_trans p q e) a (omega arith)
went_after {n = n} {j = j} p h (spent q d) e = spent (moves_trans p q e) (omega arith)

-- an ending that does not come to w says nothing of it
pub went_else : {t w w' : Thread} {left k : ℕ} {how : How} → Went t w left how k → (how ≡ Done → ⊥) → Went t w' left how k
went_else (done p l) z = absurd (z refl)
went_else (fails p a e l) z = fails p a e l
went_else (full p a l) z = full p a l
went_else (spent p e) z = spent p e

pub went_to : {t w w' : Thread} {left k : ℕ} {how : How} → Went t w left how k → how ≡ Done → w ≡ w' → Went t w' left Done k
went_to (done p l) z e = rw e at (done p l)
went_to (fails p a d l) z e = let c : ◌≡◌ {A = ℕ} 0 1 = cc in absurd (omega arith)
went_to (full p a l) z e = let c : ◌≡◌ {A = ℕ} 0 1 = cc in absurd (omega arith)
went_to (spent p d) z e = let c : ◌≡◌ {A = ℕ} 0 1 = cc in absurd (omega arith)

pub went_done : {t w : Thread} {left k : ℕ} {how : How} → Went t w left how k → how ≡ Done → Moves t k w
went_done (done p l) z = p
went_done (fails p a d l) z = let c : ◌≡◌ {A = ℕ} 0 1 = cc in absurd (omega arith)
went_done (full p a l) z = let c : ◌≡◌ {A = ℕ} 0 1 = cc in absurd (omega arith)
went_done (spent p d) z = let c : ◌≡◌ {A = ℕ} 0 1 = cc in absurd (omega arith)

-- THE RUN
-- n units more on a tally
unfoldable pub units_more : ℕ → Tally → Tally
units_more n y = record { units = y.units + n; answers = y.answers; assumed = y.assumed }

abbrev at_thread : Thread → List Thread → Tally → List Line → State
at_thread t ts y ls = record { thread = t; waiting = ts; tally = y; lines = ls }

unit_next : (q : Request) (u w : Thread) (ts : List Thread) (y : Tally) (ls : List Line) → advance u ≡ only w → step q (at_thread u ts y ls) ≡ next (at_thread w ts (counted y) ls)
unfolding step after go_on
unit_next q u w ts y ls e = rw e refl

run_one : (q : Request) (u w : Thread) (m : ℕ) (ts : List Thread) (y : Tally) (ls : List Line) → advance u ≡ only w
    → run q (suc m) (at_thread u ts y ls) ≡ run q m (at_thread w ts (counted y) ls)
unfolding run
run_one q u w m ts y ls e = rw (run, unit_next q u w ts y ls e) refl

-- units in a row are units of the run
pub run_moves : (q : Request) (t u : Thread) (n m : ℕ) (ts : List Thread) (y : Tally) (ls : List Line) → Moves t n u
    → run q (n + m) (at_thread t ts y ls) ≡ run q m (at_thread u ts (units_more n y) ls)
unfolding units_more counted
run_moves q t u n m ts y ls (still e) =
    let a : n + m ≡ m = omega arith in
    let b : y.units + n ≡ y.units = omega arith in
    rw (a, b) refl
run_moves q t u n m ts y ls (more {n = k} {u = v} p a e) =
    let x : n + m ≡ k + suc m = omega arith in
    let z : y.units + n ≡ suc (y.units + k) = omega arith in
    rw (x, z) (run_moves q t v k (suc m) ts y ls p ∙ run_one q v u m ts (units_more k y) ls a)
