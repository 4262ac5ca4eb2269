-- The start of a run in the workspace: one goal cell, with the question's goal and its own clauses for a program; every unknown open.
use Rattle.std.specs.Prelude.{false, Some, List, ℕ, ◌≤◌, ◌<◌, ◌≡◌, length, get_or, replicate}
use Rattle.book.proofs.Accepted.{Accepted}
use Rattle.machine.specs.declared.Ending.{Ending}
use Rattle.machine.specs.declared.Tally.{Tally}
use Rattle.machine.specs.Call.{no_counts, run_of, filled_buffer}
use Rattle.book.specs.Records.{field, last_record}
use Rattle.words.specs.Words.{term_word}
use Rattle.branch.specs.State.{put_cell}
use Rattle.steps.specs.declared.Regs.{Regs}

unfoldable pub start_words : List ℕ → List ℕ → List ℕ
start_words book ws = put_cell 1 (term_word (field book (last_record book) 3) 0) 0 0 ws

unfoldable pub start_regs : List ℕ → Regs
start_regs book = record
    { made = field book (last_record book) 4; trail = 0; cells = 2; programs = 1; alternatives = 0; branch = Some (record { cell = 1; taken = 0; supposed = false }) }

-- What the whole run is ready for: an accepted book; a workspace whose first slots, for the unknowns, and whose words for the memo are 0, the others anything;
-- an answer buffer that is all zero; and nothing counted yet.
pub record Ready (book ws out : List ℕ) (wanted budget : ℕ) (so : Tally) : Type 0 where
  pub accepted : Accepted book
  pub size : length ws ≡ 16384
  pub open_slots : (k : ℕ) → k < 64 → get_or ws k 0 ≡ 0
  pub memo : (k : ℕ) → 13568 ≤ k → k < 15616 → get_or ws k 0 ≡ 0
  pub room : length out ≤ 65536
  pub wanted_some : 1 ≤ wanted
  pub wanted_most : wanted ≤ 64
  pub blank : out ≡ replicate (length out) 0
  pub fresh : so ≡ no_counts

-- What it gives: the ending, the tally and the answers of the machine's run. The words are left as they come, for the caller to clear.
pub record After (book ws out : List ℕ) (wanted budget : ℕ) (so : Tally) (e : Ending) (y : Tally) (ws' out' : List ℕ) : Type 0 where
  pub ending : e ≡ (run_of book budget wanted (length out)).ending
  pub tally : y ≡ (run_of book budget wanted (length out)).tally
  pub buffer : out' ≡ filled_buffer (length out) (run_of book budget wanted (length out)).lines
