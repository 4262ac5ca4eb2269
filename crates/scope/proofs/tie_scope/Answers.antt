use Prim.Native.Nat.{ℕ, ◌<◌}
use mathlib.Core.Path.{refl, ap, sym, ◌∙◌}
use native.Mathlib.Omega.{arith}
use native.Mathlib.Nat.{add-zero, sub-zero}
use lib.ListN.{length, length-set}
use Rattle.book.specs.Records.{field}
use Rattle.book.specs.Scan.{lower}
use Rattle.scope.specs.Ties.{earlier}
use Rattle.scope.proofs.TieLaws.{tie_end, tie_turn, new_earlier}
use Rattle.scope.specs.Lowest.{verdict_of}
use Rattle.scope.proofs.tie_scope.Goals as goal

pub loop-k-init : goal.loop-k-init
unfolding earlier lower
loop-k-init c = (refl, refl, simp (add-zero, sub-zero))

pub loop-k-preserved : goal.loop-k-preserved
loop-k-preserved c =
    let i = c.loop-k.invariant in
    let u : c.loop-k.k < length c.loop-k.owns = omega arith in
    let w : c.loop-k.k < length c.loop-k.outers = omega arith in
    let own-new = c.is_new.ensures ∙ new_earlier c.field-x.result c.loop-k.owns c.from-i.result (omega arith) in
    let outer-new = c.is_new-in-loop-k.ensures ∙ new_earlier c.field-y.result c.loop-k.outers c.from-i.result (omega arith) in (
      length-set c.loop-k.owns c.from-i.result c.field-x.result ∙ i.0,
      length-set c.loop-k.outers c.from-i.result c.field-y.result ∙ i.1,
      rw c.from-i.ensures
          (tie_turn c.args.book.now c.args.asked c.args.own c.args.outer c.args.first c.loop-k.k c.args.n c.field-x.result c.field-y.result
          c.loop-k.owns c.loop-k.outers (verdict_of c.loop-k.v) (verdict_of c.lower-v.result) c.loop-k-test.true u w
          (c.field-x.ensures ∙ ap (λ (z : ℕ). field c.args.book.now z 1) c.from.ensures)
          (c.field-y.ensures ∙ ap (λ (z : ℕ). field c.args.book.now z 2) c.from-in-loop-k.ensures)
          (c.lower-v.ensures ∙ ap (lower (verdict_of c.loop-k.v)) (rw c.from-i.ensures at (rw (own-new, outer-new) at c.fault.ensures)))
          ∙ i.2),
    )

pub returns : goal.returns
returns c = sym (tie_end _ _ _ _ _ _ _ _ _ _ c.loop-k-test.false) ∙ c.loop-k.invariant.2
