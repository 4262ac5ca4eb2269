use mathlib.Core.Bool.{true, ◌&&◌}
use mathlib.Core.Path.{◌≡◌}
use lib.Dec.{eqb}
use borrow.Author.Rules.{rules}
use borrow.Author.Tests.{tests}
use Rattle.std.specs.List.{fold}
use Rattle.std.proofs.lemmas.Iterator.{YieldsList-from_slice}
use Rattle.std.proofs.lemmas.Iterator.Consumers.{fold_from_yields_List}
use Rattle.pointing.proofs.MarkLaws.{all_ones}
use Rattle.pointing.proofs.all_once.Goals as goal

pub returns : goal.returns
returns c =
    let f : c.fold.result ≡ fold (λ b x. b && eqb x 1) true c.args.ws.now =
    fold_from_yields_List _ (λ b x. b && eqb x 1) true c.fold.result c.fold.ensures.ran (YieldsList-from_slice c.args.ws.now cc) (λ a x b q k. search (rules, tests)) in
    λ t. all_ones c.args.ws.now (rw f at t)
