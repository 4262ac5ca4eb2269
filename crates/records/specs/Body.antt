-- The body of a clause: "body flag 0 or 1", and p6, which counts with flag 1 alone.
use Rattle.std.specs.Prelude.{true, false, Option, Some, None, List, ℕ, eqb}
use Rattle.book.specs.Records.{at}

abbrev pub body_at : ℕ → ℕ → Option ℕ
body_at flag p = elim (eqb flag 1) [ true ↦ Some p | false ↦ None ]

abbrev pub body_of : List ℕ → Option ℕ
body_of r = body_at (at r 5) (at r 6)
