use mathlib.Core.Path.{ap, ◌∙◌}
use Rattle.index.specs.Runs.{found_below}
use Rattle.supposed.proofs.SearchLaws.{first_noted_bucket, first_noted_skips}
use Rattle.supposed.proofs.first_supposed.Goals as goal

pub supposed_along-requires-clause-in_bucket : goal.supposed_along-requires-clause-in_bucket
supposed_along-requires-clause-in_bucket c = let b = c.small_bucket.ensures in first_noted_bucket _ _ _ _ c.requires.run_indexed _ _ _ _ b.1 b.0 c.note_of-j.ensures

pub returns : goal.returns
returns c = let b = c.small_bucket.ensures in c.supposed_along.ensures ∙ ap (found_below c.args.run.count) (first_noted_skips _ _ _ _ c.requires.run_indexed _ _ _ _ b.1 b.0 c.note_of-j.ensures)
