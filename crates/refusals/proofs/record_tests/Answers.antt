use mathlib.Core.Path.{sym, ◌∙◌, ap}
use native.Mathlib.Omega.{arith}
use Rattle.std.proofs.Common.{Err}
use Rattle.std.proofs.lemmas.Result.{err_from_is_err_and}
use Rattle.book.specs.Records.{records}
use Rattle.refusals.proofs.PassLaws.{size_says, shaped, stop_first, stop_6, stop_7}
use Rattle.refusals.proofs.WordLaws.{refused_not_passed}
use Rattle.refusals.proofs.record_tests.Goals as goal

pub one_pass-requires : goal.one_pass-requires
unfolding records
one_pass-requires c = let z = size_says _ c.requires.0 in (omega arith, omega arith)

pub tree_test-requires : goal.tree_test-requires
unfolding records
tree_test-requires c = let z = size_says _ c.requires.0 in (z.0, z.1, c.requires.1, (shaped _ _ c.requires.0 (sym c.one_pass.ensures ∙ c.in_ok-one_pass.was)).fields)

pub scope_test-requires : goal.scope_test-requires
scope_test-requires c = shaped _ _ c.requires.0 (sym c.one_pass.ensures ∙ c.in_ok-one_pass.was)

pub returns-in_err-one_pass : goal.returns-in_err-one_pass
returns-in_err-one_pass c =
    let x = err_from_is_err_and c.from_residual.result c.from_residual.ensures.1 in
    let r = x.1 ∙ ap Err x.2 in
    (r ∙ stop_first _ _ _ c.in_err-one_pass.was c.one_pass.ensures, λ q. refused_not_passed _ _ r q)

pub returns-in_err-tree_test : goal.returns-in_err-tree_test
returns-in_err-tree_test c =
    let x = err_from_is_err_and c.from_residual-in_err-tree_test.result c.from_residual-in_err-tree_test.ensures.1 in
    let r = x.1 ∙ ap Err x.2 in
    (r ∙ stop_6 _ _ _ c.in_err-tree_test.was _ (sym c.one_pass.ensures ∙ c.in_ok-one_pass.was) c.tree_test.ensures.0, λ q. refused_not_passed _ _ r q)

pub returns : goal.returns
returns c = (c.scope_test.ensures ∙ stop_7 _ _ _ (sym c.one_pass.ensures ∙ c.in_ok-one_pass.was) (sym c.tree_test.ensures.0 ∙ c.in_ok-tree_test.was), λ q. c.tree_test.ensures.1)
