-- Units that lead from one thread to another without an alternative, and how a part of a run ends.
use Rattle.std.specs.Prelude.{◌≡◌, List, ℕ, suc, ◌≤◌, ◌<◌}
use Rattle.machine.specs.declared.Limit.{Limit}
use Rattle.machine.specs.declared.Limit.TheVariants.{Budget}
use Rattle.machine.specs.Store.{Entry}
use Rattle.machine.specs.Machine.{Thread, Branch, stop, failed, only, advance}
use Rattle.looks.specs.declared.How.{How}
use Rattle.looks.specs.declared.How.TheVariants.{Done, Failed, Stopped}

-- n units lead from t to u
pub data Moves (t : Thread) : ℕ → Thread → Type 0 where
  still : {n : ℕ} → n ≡ 0 → Moves t n t
  more : {n k : ℕ} {u w : Thread} → Moves t n u → advance u ≡ only w → k ≡ suc n → Moves t k w

-- With `left` units of the budget: t comes to w; or fails; or meets a limit; and how many units that took.
pub data Went (t w : Thread) (left : ℕ) : How → ℕ → Type 0 where
  done : {n : ℕ} → Moves t n w → n ≤ left → Went t w left Done n
  fails : {n k : ℕ} {u : Thread} → Moves t n u → advance u ≡ failed → k ≡ suc n → k ≤ left → Went t w left Failed k
  full : {n : ℕ} {m : Limit} {u : Thread} → Moves t n u → advance u ≡ stop m → n < left → Went t w left (Stopped m) n
  spent : {n : ℕ} {u : Thread} → Moves t n u → n ≡ left → Went t w left (Stopped Budget) n

-- the branch with another store
abbrev pub with_store : Branch → List Entry → Branch
with_store b s = record { goals = b.goals; store = s; taken = b.taken; supposed = b.supposed }
