-- A loop that fills a list from the front (borrow.Author.Fill), when it is done.
use mathlib.Core.Path.{◌≡◌}
use mathlib.Core.List.{List, ◌++◌, append-nil}
use Prim.Native.Nat.{ℕ, ◌≤◌}
use native.Mathlib.Omega.{arith}
use lib.ListN.{length, replicate, drop, drop_of_length-le}

pub fill_done : (i v : ℕ) (d : List ℕ) → i ≤ length d → length d ≤ i → replicate i v ++ drop i d ≡ replicate (length d) v
fill_done i v d h k = let e : i ≡ length d = omega arith in rw (drop_of_length-le d k, append-nil, e)
