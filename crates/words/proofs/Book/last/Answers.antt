use mathlib.Core.Path.{refl}
use Rattle.book.specs.Records.{last_record}
use Rattle.words.proofs.Book.last.Goals as goal

pub returns : goal.returns
unfolding last_record
returns c = rw c.records.ensures refl
