use mathlib.Core.Path.{◌≡◌, ◌∙◌}
use borrow.Author.Rules.{rules}
use borrow.Author.Tests.{tests}
use Rattle.std.proofs.lemmas.Iterator.{YieldsList-from_slice, IsFirst-from_position}
use Rattle.pointing.proofs.MarkLaws.{lowest_said}
use Rattle.pointing.proofs.lowest_not_once.Goals as goal

pub returns : goal.returns
returns c =
    let p = IsFirst-from_position _ _ c.position.result (λ x. x ≡ 1 → ⊥) (λ x. x ≡ 1) c.position.ensures.ran (YieldsList-from_slice c.args.ws.now cc)
    (λ x q k. search (rules, tests)) (λ x q k. search (rules, tests)) in
    c.of.ensures ∙ lowest_said c.args.ws.now c.position.result c.map-lowest.result _ p c.map-lowest.ensures.cases (λ i r k. search rules)
