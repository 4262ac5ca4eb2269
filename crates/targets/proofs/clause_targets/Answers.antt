use Rattle.std.proofs.Common.{◌≡◌, arith, rules, tests}
use Rattle.std.proofs.lemmas.Bool.Decides.{nat_tests}
use Rattle.book.specs.Records.{at}
use Rattle.book.specs.Targets.{is_tie, each_of, targets_fit_as}
use Rattle.targets.proofs.WithinLaws.{all_of_run}
use Rattle.targets.proofs.clause_targets.Goals as goal

pub returns-then-number_at : goal.returns-then-number_at
unfolding targets_fit_as
returns-then-number_at c =
    let a : c.all.result ≡ each_of (is_tie c.args.book.now) (at c.args.r 2) (at c.args.r 3) =
    all_of_run (is_tie c.args.book.now) _ _ c.run.ensures c.all.ensures.ran (λ x b q k. search (rules, tests)) in
    grind (arith, nat_tests)

pub returns-else-number_at : goal.returns-else-number_at
unfolding targets_fit_as
returns-else-number_at c =
    let a : c.all.result ≡ each_of (is_tie c.args.book.now) (at c.args.r 2) (at c.args.r 3) =
    all_of_run (is_tie c.args.book.now) _ _ c.run.ensures c.all.ensures.ran (λ x b q k. search (rules, tests)) in
    grind (arith, nat_tests)
