-- What the body of a clause says of its flag and its pointer.
use mathlib.Core.Bool.{Bool, true, false}
use mathlib.Core.List.{List}
use mathlib.Core.Path.{◌≡◌, refl, ap}
use Prim.Native.Nat.{ℕ}
use lib.Dec.{eqb}
use borrow.Author.Tests.{eqb-true}
use Rattle.std.specs.Prelude.{Option, Some, None}
use Rattle.book.specs.Records.{at}
use Rattle.records.specs.Body.{body_of}

payload : ℕ → Option ℕ → ℕ
payload d None = d
payload d (Some x) = x

pub body_some : (r : List ℕ) (x : ℕ) → body_of r ≡ Some x → (at r 5 ≡ 1) × (at r 6 ≡ x)
unfolding payload
body_some r x e = go (eqb (at r 5) 1) refl e
  where
    go : (b : Bool) → eqb (at r 5) 1 ≡ b → ◌≡◌ {A = Option ℕ} (elim b [ true ↦ Some (at r 6) | false ↦ None ]) (Some x) → (at r 5 ≡ 1) × (at r 6 ≡ x)
    go true q f = (eqb-true (at r 5) 1 q, ap (payload 0) f)
    go false q f = absurd cc

pub body_none : (r : List ℕ) → body_of r ≡ None → eqb (at r 5) 1 ≡ false
body_none r e = go (eqb (at r 5) 1) e
  where
    go : (b : Bool) → ◌≡◌ {A = Option ℕ} (elim b [ true ↦ Some (at r 6) | false ↦ None ]) None → b ≡ false
    go true f = absurd cc
    go false f = refl
