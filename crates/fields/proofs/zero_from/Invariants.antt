use Rattle.std.proofs.Common.{◌≡◌, ◌&&◌}
use Rattle.book.specs.Fields.{zero_from}
use Rattle.fields.proofs.zero_from.Given as goal

abbrev pub invariant-loop-k : goal.invariant-loop-k
invariant-loop-k g l = zero_from g.row.K l.r ≡ (l.zero && zero_from l.k l.r)
