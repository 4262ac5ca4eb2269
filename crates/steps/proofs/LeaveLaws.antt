-- What a step's writes leave alone.
use mathlib.Core.Path.{◌≡◌}
use mathlib.Core.Logic.{inl, inr}
use mathlib.Core.List.{List}
use Prim.Native.Nat.{ℕ, ◌≤◌, ◌<◌}
use native.Mathlib.Omega.{arith}
use lib.ListN.{length}
use Rattle.words.specs.Frame.{Keeps}
use Rattle.words.proofs.StackLaws.{keeps_refl, keeps_trans, keeps_narrow}
use Rattle.branch.specs.declared.Back.{Back}
use Rattle.branch.specs.Alternatives.{keep_words}
use Rattle.branch.specs.State.{put_cell}
use Rattle.seeking.specs.Memo.{MemoOnly}
use Rattle.branch.proofs.TakeLaws.{put_outside}
use Rattle.branch.proofs.KeepLaws.{kept_outside}
use Rattle.steps.specs.Search.{Leaves}

pub leaves_none : (ws : List ℕ) → Leaves ws ws
leaves_none ws = record { index = keeps_refl 4096 6144 ws; free = keeps_refl 12304 13328 ws }

pub leaves_trans : {ws ws₁ ws₂ : List ℕ} → Leaves ws ws₁ → Leaves ws₁ ws₂ → Leaves ws ws₂
leaves_trans a b = record { index = keeps_trans a.index b.index; free = keeps_trans a.free b.free }

-- what keeps the words from 4096 on up to the pairs; what entering and unifying leave alone
pub leaves_between : {lo : ℕ} {ws ws' : List ℕ} → lo ≤ 4096 → Keeps lo 15616 ws ws' → Leaves ws ws'
leaves_between h k = record { index = keeps_narrow h (omega arith) k; free = keeps_narrow (omega arith) (omega arith) k }

-- what differs in the memo only
pub leaves_only : {ws ws' : List ℕ} → MemoOnly ws ws' → Leaves ws ws'
leaves_only O = record { index = keeps_narrow (omega arith) (omega arith) O.below; free = keeps_narrow (omega arith) (omega arith) O.below }

-- a goal cell, an alternative
pub leaves_cell : (c w p q : ℕ) (ws : List ℕ) → c < 1026 → Leaves ws (put_cell c w p q ws)
leaves_cell c w p q ws h = record
    { index = put_outside 4096 6144 c w p q ws (inr (omega arith)); free = put_outside 12304 13328 c w p q ws (inl (omega arith)) }

pub leaves_kept : (ws : List ℕ) (k : ℕ) (x : Back) → k < 512 → length ws ≡ 16384 → Leaves ws (keep_words ws k x)
leaves_kept ws k x h l = record
    { index = kept_outside ws k x h l 4096 6144 (inr (omega arith)); free = kept_outside ws k x h l 12304 13328 (inl (omega arith)) }
