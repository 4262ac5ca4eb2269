-- What test 4 has made sure of when test 5 reads a record: what it points at is there.
use Rattle.std.specs.Prelude.{true, List, ◌≡◌, ℕ, ◌<◌, ◌≤◌}
use Rattle.book.specs.Records.{field, records}
use Rattle.book.specs.Fields.{fields_fit}

-- record l is there, and if it is a link, so is its target
pub record Linked (book : List ℕ) (l : ℕ) : Type 0 where
  pub there : l < records book
  pub target : field book l 0 ≡ 3 → field book l 1 < records book

-- the records below i are there, and the targets of the links among them
pub record Readable (book : List ℕ) (i : ℕ) : Type 0 where
  pub few : i ≤ records book
  pub targets : (l : ℕ) → l < i → field book l 0 ≡ 3 → field book l 1 < records book

-- a record that passed test 4, as did the links below it
abbrev pub Within : List ℕ → List ℕ → Type 0
Within book r = (i : ℕ) × Readable book i × (fields_fit i r ≡ true)
