use Rattle.std.proofs.Common.{rules, tests}
use Rattle.book.specs.Targets.{argument_link, targets_fit_as}
use Rattle.targets.proofs.WithinLaws.{all_of_run}
use Rattle.targets.proofs.term_targets.Goals as goal

pub returns : goal.returns
unfolding targets_fit_as
returns c = all_of_run (argument_link c.args.book.now) _ _ c.run.ensures c.all.ensures.ran (λ x b q k. search (rules, tests))
