-- Words made zeros: those words, and no other.
use mathlib.Core.Path.{◌≡◌, refl, ◌∙◌}
use mathlib.Core.Bool.{Bool}
use mathlib.Core.Logic.{◌⊎◌, inl, inr}
use mathlib.Core.List.{List}
use Prim.Native.Nat.{ℕ, zero, suc, ◌+◌, ◌≤◌, ◌<◌}
use native.Mathlib.Omega.{arith}
use lib.ListN.{length, get_or, set, length-set}
use lib.Seq.{get_or-set_same, get_or-set_other}
use Rattle.book.proofs.Tests.{tested, Tested, Tested.equal, Tested.other}
use Rattle.words.specs.Frame.{Keeps, clear_words}
use Rattle.words.proofs.StackLaws.{keeps_refl, keeps_trans, keeps_set}

pub clear_none : (at : ℕ) (ws : List ℕ) → ws ≡ clear_words at 0 ws
unfolding clear_words
clear_none at ws = refl

pub clear_more : (at n : ℕ) (ws ws' : List ℕ) → ws' ≡ clear_words at n ws → set ws' (at + n) 0 ≡ clear_words at (n + 1) ws
unfolding clear_words
clear_more at n ws ws' e = let z : n + 1 ≡ suc n = omega arith in rw (z, e) refl

pub clear_length : (at n : ℕ) (ws : List ℕ) → length (clear_words at n ws) ≡ length ws
unfolding clear_words
clear_length at zero ws = refl
clear_length at (suc n) ws = length-set (clear_words at n ws) (at + n) 0 ∙ clear_length at n ws

pub clear_keeps : (lo hi at n : ℕ) (ws : List ℕ) → (hi ≤ at) ⊎ (at + n ≤ lo) → Keeps lo hi ws (clear_words at n ws)
unfolding clear_words
clear_keeps lo hi at zero ws h = keeps_refl lo hi ws
clear_keeps lo hi at (suc n) ws (inl h) = keeps_trans (clear_keeps lo hi at n ws (inl h)) (keeps_set lo hi (clear_words at n ws) (at + n) 0 (inr (omega arith)))
clear_keeps lo hi at (suc n) ws (inr h) = keeps_trans (clear_keeps lo hi at n ws (inr (omega arith))) (keeps_set lo hi (clear_words at n ws) (at + n) 0 (inl (omega arith)))

pub clear_zero : (at n k : ℕ) (ws : List ℕ) → at + n ≤ length ws → k < n → get_or (clear_words at n ws) (at + k) 0 ≡ 0
unfolding clear_words
clear_zero at zero k ws l h = absurd (omega arith)
clear_zero at (suc n) k ws l h = go (tested k n) (λ a. clear_zero at n k ws (omega arith) a)
  where
    go : {t : Bool} → Tested k n t → (k < n → get_or (clear_words at n ws) (at + k) 0 ≡ 0) → get_or (set (clear_words at n ws) (at + n) 0) (at + k) 0 ≡ 0
    go (equal e) ih = rw (e, get_or-set_same (clear_words at n ws) (at + n) 0 0 (omega (arith, clear_length at n ws))) refl
    go (other e) ih = get_or-set_other (clear_words at n ws) (at + n) (at + k) 0 0 (λ d. e (omega arith)) ∙ ih (omega (arith, e))
