use mathlib.Core.Path.{refl, sym, ◌∙◌, ap}
use native.Mathlib.Omega.{arith}
use Rattle.std.proofs.Common.{Err}
use Rattle.std.proofs.lemmas.Result.{err_from_is_err_and}
use Rattle.book.specs.declared.Test.TheVariants.{Kinds}
use Rattle.book.specs.Records.{records}
use Rattle.book.specs.Scan.{refused}
use Rattle.refusals.proofs.PassLaws.{kind_stops, kind_goes_on, found_four, found_five}
use Rattle.refusals.proofs.one_pass.Goals as goal

pub returns-then-not-kind_fits : goal.returns-then-not-kind_fits
unfolding records
returns-then-not-kind_fits c = let l = c.loop-i in c.of.ensures ∙ ap (refused Kinds) (omega arith) ∙ kind_stops c.args.book.now _ l.i refl _ c.record_at-r.ensures c.loop-i-test.true l.invariant.0 (sym c.kind_fits.ensures ∙ c.if-not-kind_fits.true)

pub loop-i-preserved : goal.loop-i-preserved
unfolding records
loop-i-preserved c = let l = c.loop-i in (kind_goes_on c.args.book.now _ l.i refl _ c.record_at-r.ensures c.loop-i-test.true l.invariant.0 (sym c.kind_fits.ensures ∙ c.if-not-kind_fits.false), c.look-low.ensures)

pub returns-in_err-of : goal.returns-in_err-of
unfolding records
returns-in_err-of c =
    let l = c.loop-i in
    let x = err_from_is_err_and c.from_residual.result c.from_residual.ensures.1 in
    x.1 ∙ ap Err x.2 ∙ found_four c.args.book.now _ l.i refl (let h = c.loop-i-test.false in omega arith) l.invariant.0 l.low l.invariant.1 _ (sym c.of-2.ensures ∙ c.in_err-of.was)

pub returns : goal.returns
unfolding records
returns c =
    let l = c.loop-i in
    c.of-3.ensures ∙ found_five c.args.book.now _ l.i refl (let h = c.loop-i-test.false in omega arith) l.invariant.0 l.low l.invariant.1 _ (sym c.of-2.ensures ∙ c.in_ok-of.was)
