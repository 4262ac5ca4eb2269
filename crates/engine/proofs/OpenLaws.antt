-- The words that are cleared before a run.
use mathlib.Core.List.{List}
use mathlib.Core.Path.{◌≡◌, ◌∙◌, ap}
use Prim.Native.Nat.{ℕ, ◌+◌, ◌<◌}
use native.Mathlib.Omega.{arith}
use lib.ListN.{length, get_or}
use Rattle.words.specs.Frame.{clear_words}
use Rattle.words.proofs.ClearLaws.{clear_length, clear_zero}
use Rattle.seeking.specs.Memo.{forget_words}
use Rattle.seeking.proofs.MemoLaws.{forget_only, forget_zero}
use Rattle.engine.specs.Opened.{Opened}

pub opened : (ws ws₁ ws₂ : List ℕ) → length ws ≡ 16384 → ws₁ ≡ clear_words 0 64 ws → ws₂ ≡ forget_words 2048 ws₁ → Opened ws₂
opened ws ws₁ ws₂ l d e =
    let s : length ws₁ ≡ 16384 = rw d (clear_length 0 64 ws ∙ l) in
    rw e (record {
      size = (forget_only 2048 ws₁ (omega arith)).below.size ∙ s;
      slots = λ k h. (forget_only 2048 ws₁ (omega arith)).below.same k (omega arith) (omega arith) ∙ slot k h;
      memo = λ k a b. forget_zero 2048 ws₁ (omega arith) s k a (omega arith);
    })
  where
    slot : (k : ℕ) → k < 64 → get_or ws₁ k 0 ≡ 0
    slot k h = let z : k ≡ 0 + k = omega arith in ap (λ (i : ℕ). get_or ws₁ i 0) z ∙ rw d (clear_zero 0 64 k ws (omega arith) h)
