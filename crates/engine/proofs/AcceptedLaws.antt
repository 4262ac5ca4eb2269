-- A call that is not refused: what its run is ready for, and what is left after it.
use mathlib.Core.Path.{◌≡◌, refl, sym, ◌∙◌, ap}
use mathlib.Core.List.{List}
use Prim.Native.Nat.{ℕ, ◌≤◌}
use native.Mathlib.Omega.{arith}
use lib.ListN.{length, replicate, length-replicate}
use Rattle.book.proofs.Accepted.{Accepted}
use Rattle.std.proofs.Common.{Ok}
use Rattle.machine.specs.Call.{no_counts, run_of, accepted}
use Rattle.running.specs.declared.Ran.{Ran}
use Rattle.starting.specs.Start.{Ready, After}
use Rattle.engine.specs.Opened.{Opened}

-- a workspace with its slots open and nothing remembered, and an answer buffer that was cleared
pub run_ready : (book : List ℕ) (wanted budget : ℕ) (ws out out' : List ℕ) → Accepted book → (length out ≤ 65536) × (1 ≤ wanted) × (wanted ≤ 64)
    → Opened ws → out' ≡ replicate (length out) 0 → Ready book ws out' wanted budget no_counts
run_ready book wanted budget ws out out' A h z o =
    let n : length out' ≡ length out = ap length o ∙ length-replicate {A = ℕ} (length out) 0 in
    record {
      accepted = A;
      size = z.size;
      open_slots = z.slots;
      memo = z.memo;
      room = omega (arith, h.0);
      wanted_some = h.1;
      wanted_most = h.2;
      blank = o ∙ ap (λ (k : ℕ). replicate k 0) (sym n);
      fresh = refl;
    }

pub run_done : (book : List ℕ) (budget wanted m words size : ℕ) (x : Ran) (ws ws₁ out out₁ ws' : List ℕ)
    → After book ws out wanted budget no_counts x.ending x.tally ws₁ out₁ → length out ≡ size → ws' ≡ replicate m 0 → m ≡ words
    → (record { outcome = Ok x.ending; tally = x.tally } ≡ (accepted words size (run_of book budget wanted size)).reply)
    × ((ws' ≡ (accepted words size (run_of book budget wanted size)).workspace) × (out₁ ≡ (accepted words size (run_of book budget wanted size)).out))
unfolding accepted
run_done book budget wanted m words size x ws ws₁ out out₁ ws' F h z k = rw (← h, ← k) (rw (F.ending, F.tally) refl, (z, F.buffer))
