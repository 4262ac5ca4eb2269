use mathlib.Core.Path.{refl}
use Rattle.book.specs.Records.{records}
use Rattle.words.proofs.Book.records.Goals as goal

pub returns : goal.returns
unfolding records
returns c = refl
