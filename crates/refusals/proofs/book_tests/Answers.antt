use mathlib.Core.Path.{◌≡◌, refl, sym, ◌∙◌, ap}
use lib.ListN.{length}
use Rattle.refusals.proofs.PassLaws.{size_refused, size_taken}
use Rattle.refusals.proofs.WordLaws.{refusing_is, book_refused, book_fine}
use borrow.Author.Rules.{rules}
use native.Mathlib.Omega.{arith}
use Rattle.std.proofs.Common.{true, false, is_err}
use Rattle.std.proofs.lemmas.Grind.{common_steps}
use Rattle.refusals.specs.Passes.{refusing}
use Rattle.refusals.proofs.book_tests.Goals as goal

pub returns-then-not-size_fits : goal.returns-then-not-size_fits
returns-then-not-size_fits c =
    let e = c.of.ensures ∙ size_refused c.args.book.now (sym c.size_fits.ensures ∙ c.if-not-size_fits.true) in
    let f = refusing_is _ ∙ ap is_err c.of.ensures in
    (e, book_refused c.args.book.now c.args.ws.now _ _ e _ f refl c.clear.ensures)

pub record_tests-v-requires : goal.record_tests-v-requires
record_tests-v-requires c = (sym c.size_fits.ensures ∙ c.if-not-size_fits.false, c.requires)

pub returns-then-is_err : goal.returns-then-is_err
returns-then-is_err c =
    let e = c.record_tests-v.ensures.0 ∙ size_taken _ (sym c.size_fits.ensures ∙ c.if-not-size_fits.false) in
    let f : refusing c.record_tests-v.result ≡ true = refusing_is _ ∙ grind (arith, common_steps) in
    let l : length c.record_tests-v.new.ws ≡ length c.args.ws.now = search rules in
    (e, book_refused c.args.book.now c.args.ws.now _ _ e _ f l c.clear-then-is_err.ensures)

pub returns-else-is_err : goal.returns-else-is_err
returns-else-is_err c =
    let e = c.record_tests-v.ensures.0 ∙ size_taken _ (sym c.size_fits.ensures ∙ c.if-not-size_fits.false) in
    let f : refusing c.record_tests-v.result ≡ false = refusing_is _ ∙ grind (arith, common_steps) in
    (e, book_fine c.args.book.now c.args.ws.now _ _ e f (c.record_tests-v.ensures.1 f))
