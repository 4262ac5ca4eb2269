use native.Mathlib.Omega.{arith}
use mathlib.Core.Path.{◌∙◌, ap}
use Rattle.book.specs.Records.{record_at}
use Rattle.scope.proofs.own_clause_at.Goals as goal

pub record_at-requires : goal.record_at-requires
record_at-requires c = let h = c.requires.1 in let e = c.from.ensures in omega arith

pub own_clause-requires : goal.own_clause-requires
own_clause-requires c = (c.requires.0, c.requires.1, c.requires.2, c.record_at.ensures ∙ ap (record_at c.args.book.now) c.from.ensures)
