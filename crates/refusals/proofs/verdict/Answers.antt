use mathlib.Core.Path.{◌≡◌, sym, ◌∙◌, ap}
use Prim.Native.Nat.{ℕ}
use lib.ListN.{length, replicate}
use Rattle.std.proofs.Common.{Err}
use Rattle.std.proofs.lemmas.Result.{err_from_is_err_and}
use Rattle.refusals.proofs.WordLaws.{tested_refused, tested_fine}
use borrow.Author.Rules.{rules}
use Rattle.refusals.proofs.verdict.Goals as goal

pub returns-in_err-tests : goal.returns-in_err-tests
returns-in_err-tests c =
    let x = err_from_is_err_and c.from_residual.result c.from_residual.ensures.1 in
    let v = c.tests.ensures in
    let g = c.in_err-tests.was in
    (x.1 ∙ ap Err x.2 ∙ sym g ∙ v.0, tested_refused c.args.ws.now c.args.book.now c.args.buffer c.args.wanted _ _ _ v.0 g v.1)

pub returns : goal.returns
returns c =
    let v = c.tests.ensures in
    let g = c.in_ok-tests.was in
    let l : length c.tests.new.ws ≡ length c.args.ws.now = search rules in
    (sym g ∙ v.0, c.clear.ensures ∙ ap (λ (n : ℕ). replicate n 0) l ∙ tested_fine c.args.ws.now c.args.book.now c.args.buffer c.args.wanted _ _ v.0 g)
