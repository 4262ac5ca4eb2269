-- The workspace before a run: the words that the run must find as zeros. The others may be anything.
use Rattle.std.specs.Prelude.{List, ◌≡◌, ℕ, ◌≤◌, ◌<◌, length, get_or}

pub record Opened (ws : List ℕ) : Type 0 where
  pub size : length ws ≡ 16384
  -- the slots of the unknowns
  pub slots : (k : ℕ) → k < 64 → get_or ws k 0 ≡ 0
  -- the words of the memo
  pub memo : (k : ℕ) → 13568 ≤ k → k < 15616 → get_or ws k 0 ≡ 0
