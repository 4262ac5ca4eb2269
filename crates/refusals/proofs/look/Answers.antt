use mathlib.Core.Path.{◌≡◌, refl, sym, ◌∙◌}
use native.Mathlib.Omega.{arith}
use Rattle.std.proofs.Common.{true, None, is_some}
use Rattle.std.proofs.lemmas.Grind.{common_steps}
use Rattle.refusals.proofs.PassLaws.{readable, is_some_true, look_four, look_kept, look_five, look_on_lem}
use Rattle.refusals.proofs.look.Goals.{else-is_none-via-then-is_none+else-not-targets_fit, else-is_none-via-else-is_none}
use Rattle.refusals.proofs.look.Goals as goal

pub returns-then-not-fields_fit : goal.returns-then-not-fields_fit
returns-then-not-fields_fit c =
    let m : c.args.was.four ≡ None = grind (arith, common_steps) in
    look_four c.args.book.now _ c.args.i c.args.r c.requires.1 c.requires.0 c.args.was c.requires.2 m (sym c.fields_fit.ensures ∙ c.if-not-fields_fit.true)

pub targets_fit-requires : goal.targets_fit-requires
targets_fit-requires c =
    let m : c.args.was.four ≡ None = grind (arith, common_steps) in
    let h = c.requires.0 in
    (c.args.i, readable c.args.book.now _ c.args.i refl (omega arith) c.args.was m c.requires.2, sym c.fields_fit.ensures ∙ c.if-not-fields_fit.false)

pub returns-then-not-targets_fit : goal.returns-then-not-targets_fit
returns-then-not-targets_fit c =
    let m : c.args.was.four ≡ None = grind (arith, common_steps) in
    let v : c.args.was.five ≡ None = grind (arith, common_steps) in
    look_five c.args.book.now _ c.args.i c.args.r c.requires.1 c.requires.0 c.args.was c.requires.2 m (sym c.fields_fit.ensures ∙ c.if-not-fields_fit.false) v (sym c.targets_fit.ensures ∙ c.if-not-targets_fit.true)

pub returns : goal.returns
returns c =
    let m : c.args.was.four ≡ None = grind (arith, common_steps) in
    let f = sym c.fields_fit.ensures ∙ c.if-not-fields_fit.false in
    elim c.else-is_none.branch [
      | else-is_none-via-then-is_none+else-not-targets_fit w ↦
          let v : c.args.was.five ≡ None = grind (arith, common_steps) in
          look_on_lem c.args.book.now _ c.args.i c.args.r c.requires.1 c.requires.0 c.args.was c.requires.2 m f v (sym w.targets_fit.ensures ∙ w.if-not-targets_fit.false)
      | else-is_none-via-else-is_none w ↦
          let v : is_some c.args.was.five ≡ true = grind (arith, common_steps) in
          let x = is_some_true _ v in
          look_kept c.args.book.now _ c.args.i c.args.r c.requires.1 c.requires.0 c.args.was c.requires.2 m f x.0 x.1
    ]
