-- What the code of test 7 answers with: the lowest failing record, if one fails.
use Rattle.std.specs.Prelude.{Option, ℕ}
use Rattle.book.specs.declared.Test.TheVariants.{Scope}
use Rattle.book.specs.Scan.{Verdict, refused_at}

abbrev pub verdict_of : Option ℕ → Verdict
verdict_of = refused_at Scope
