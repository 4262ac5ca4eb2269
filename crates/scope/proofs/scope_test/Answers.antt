use native.Mathlib.Omega.{arith}
use Rattle.book.specs.Records.{records, last_record}
use Rattle.scope.proofs.scope_test.Goals as goal

pub overflow_sub-q : goal.overflow_sub-q
unfolding records
overflow_sub-q c = let s = c.requires.some in omega arith

pub overflow_cast-q : goal.overflow_cast-q
unfolding records
overflow_cast-q c = let f = c.requires.few in omega arith

pub record_at-requires : goal.record_at-requires
unfolding records
record_at-requires c = let s = c.requires.some in omega arith

pub question_scope-requires : goal.question_scope-requires
unfolding last_record records
question_scope-requires c = (c.requires, c.record_at.ensures)
