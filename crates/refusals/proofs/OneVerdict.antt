-- Any two results that the contract of `verdict` allows are the same: the verdict, the paper's numbers of it, and every word of the workspace.
use mathlib.Core.List.{List}
use mathlib.Core.Path.{◌≡◌, sym, ◌∙◌, ap}
use Prim.Native.Nat.{ℕ}
use lib.ListN.{length}
use Rattle.book.specs.Scan.{Verdict}
use Rattle.book.specs.Refusals.{room_fits, verdict, verdict_numbers}
use Rattle.refusals.specs.Passes.{words_after}

-- the contract of `verdict`, of a result v and the words afterwards
abbrev Allowed : List ℕ → List ℕ → ℕ → ℕ → Verdict → List ℕ → Type 0
Allowed ws book buffer wanted v after =
    (v ≡ verdict (length ws) buffer wanted book) × (after ≡ words_after (room_fits (length ws) buffer wanted) ws)

pub one_verdict : (ws book : List ℕ) (buffer wanted : ℕ) (v v' : Verdict) (after after' : List ℕ)
    → Allowed ws book buffer wanted v after → Allowed ws book buffer wanted v' after'
    → (v ≡ v') × (verdict_numbers v ≡ verdict_numbers v') × (after ≡ after')
one_verdict ws book buffer wanted v v' after after' a b =
    let e = a.0 ∙ sym b.0 in (e, ap verdict_numbers e, a.1 ∙ sym b.1)
