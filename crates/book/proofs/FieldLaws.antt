-- "Fields not listed are 0", field by field.
use mathlib.Core.Path.{◌≡◌, refl}
use mathlib.Core.Bool.{Bool, true, false, ◌&&◌}
use mathlib.Core.List.{List}
use Prim.Native.Nat.{ℕ, zero, suc, ◌+◌, ◌-◌, ◌≤◌, ◌<◌}
use native.Mathlib.Omega.{arith}
use lib.Dec.{eqb}
use Rattle.book.specs.Records.{at}
use Rattle.book.specs.Fields.{zeros, zero_from}
use Rattle.book.proofs.Tests.{and_true, eqb_says, Tested, equal, other, tested}

-- each field from k on
pub zero_at : (k j : ℕ) (r : List ℕ) → zero_from k r ≡ true → k ≤ j → j < 8 → at r j ≡ 0
unfolding zero_from zeros
zero_at k j r e a b = go (8 - k) k e a (omega arith)
  where
    go : (n k : ℕ) → zeros k n r ≡ true → k ≤ j → j < k + n → at r j ≡ 0
    go zero k e a b = absurd (omega arith)
    go (suc n) k e a b =
        let x = and_true (eqb (at r k) 0) (zeros (suc k) n r) e in
        at_or_on (eqb_says (at r k) 0 x.0) (λ c. go n (suc k) x.1 c (omega arith)) (eqb k j) (tested k j)
      where
        at_or_on : at r k ≡ 0 → (suc k ≤ j → at r j ≡ 0) → (t : Bool) → Tested k j t → at r j ≡ 0
        at_or_on z on true (equal p) = rw p at z
        at_or_on z on false (other p) = on (omega arith)

-- field k, and those from the next one up
pub zero_next : (k : ℕ) (r : List ℕ) → k < 8 → zero_from k r ≡ eqb (at r k) 0 && zero_from (suc k) r
unfolding zero_from zeros
zero_next k r h = let e : 8 - k ≡ suc (8 - suc k) = omega arith in rw e refl
