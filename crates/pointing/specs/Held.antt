-- What test 4 has made sure of when test 6 counts: the table has a word for whatever is pointed at.
use Rattle.std.specs.Prelude.{true, List, ◌≡◌, ℕ, ◌<◌, ◌≤◌}
use Rattle.book.specs.Records.{record_at, records}
use Rattle.book.specs.Fields.{fields_fit}

-- a record that passed test 4, and a table of so many words, one for each record below it
abbrev pub Held : ℕ → List ℕ → Type 0
Held words r = (i : ℕ) × (i ≤ words) × (fields_fit i r ≡ true)

-- every record passed test 4
abbrev pub FieldsFit : List ℕ → Type 0
FieldsFit book = (r : ℕ) → r < records book → fields_fit r (record_at book r) ≡ true
