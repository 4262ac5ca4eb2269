-- The body of a clause: "body flag 0 or 1", and p6, which counts with flag 1 alone.
use Rattle.std.specs.Prelude.{true, false, Option, Some, None, List, ℕ, eqb}
use Rattle.book.specs.Records.{field}

-- the record of the body of clause c, if it has one
abbrev pub body_of : List ℕ → ℕ → Option ℕ
body_of book c = elim (eqb (field book c 5) 1) [ true ↦ Some (field book c 6) | false ↦ None ]
