use Rattle.std.proofs.Common.{◌≡◌, arith, rules, tests}
use Rattle.std.proofs.lemmas.Bool.Decides.{nat_tests}
use Rattle.book.specs.Records.{at}
use Rattle.book.specs.Targets.{clause_link, each_of, targets_fit_as}
use Rattle.targets.proofs.WithinLaws.{all_of_run}
use Rattle.targets.proofs.suppose_targets.Goals as goal

pub returns-then-all : goal.returns-then-all
unfolding targets_fit_as
returns-then-all c =
    let a : c.all.result ≡ each_of (clause_link c.args.book.now) (at c.args.r 1) (at c.args.r 2) =
    all_of_run (clause_link c.args.book.now) _ _ c.run.ensures c.all.ensures.ran (λ x b q k. search (rules, tests)) in
    grind (arith, nat_tests)

pub returns-else-all : goal.returns-else-all
unfolding targets_fit_as
returns-else-all c =
    let a : c.all.result ≡ each_of (clause_link c.args.book.now) (at c.args.r 1) (at c.args.r 2) =
    all_of_run (clause_link c.args.book.now) _ _ c.run.ensures c.all.ensures.ran (λ x b q k. search (rules, tests)) in
    grind (arith, nat_tests)
