use mathlib.Core.Path.{ap, ◌∙◌}
use Rattle.index.specs.Runs.{found_below}
use Rattle.index.proofs.BucketLaws.{matching_bucket}
use Rattle.supposed.proofs.SearchLaws.{noted_bucket, noted_skips}
use Rattle.supposed.proofs.supposed_after.Goals as goal

pub supposed_along-requires-clause-in_bucket : goal.supposed_along-requires-clause-in_bucket
supposed_along-requires-clause-in_bucket c = let q = c.requires in noted_bucket _ _ _ _ q.run_indexed _ _ _ _ _ q.i_lt_n.0 c.field.ensures.0 (matching_bucket _ _ _ _ _ _ q.i_value) c.note_of-j.ensures

pub returns : goal.returns
returns c = let q = c.requires in c.supposed_along.ensures ∙ ap (found_below c.args.run.count) (noted_skips _ _ _ _ q.run_indexed _ _ _ _ _ q.i_lt_n.0 c.field.ensures.0 (matching_bucket _ _ _ _ _ _ q.i_value) c.note_of-j.ensures)
