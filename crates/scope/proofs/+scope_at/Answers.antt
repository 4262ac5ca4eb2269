use Rattle.std.proofs.Common.{arith, sym, ◌∙◌, ap, ◌-◌, ◌<◌}
use Rattle.book.specs.Records.{record_at}
use Rattle.scope.proofs.LowestLaws.{lowest_end}
use Rattle.scope.proofs.PartLaws.{scope_start, scope_turn, scope_pass}
use Rattle.scope.proofs.ShapedLaws.{child_below, links_there}
use Rattle.scope.proofs.+scope_at.Goals as goal

pub loop-i-init : goal.loop-i-init
loop-i-init t c =
    λ d h. scope_start c.args.book.now d c.args.n c.args.r _ _ _ _ h (c.record_at-rec.ensures ∙ ap (record_at c.args.book.now) c.from.ensures)
    c.of-p.ensures c.total-m.ensures c.own_scope-v.ensures

pub child-c-requires : goal.child-c-requires
child-c-requires t c =
    λ l. links_there c.args.book.now c.requires.0 c.args.n c.args.r c.loop-i.i _ _ c.requires.1
    (c.record_at-rec.ensures ∙ ap (record_at c.args.book.now) c.from.ensures) c.of-p.ensures l

pub is_fine-requires : goal.is_fine-requires
is_fine-requires t c =
    let f : c.child-c.result < c.args.r = child_below c.args.book.now c.requires.0 c.args.n c.args.r c.loop-i.i _ c.child-c.result _ _ c.requires.1
    (c.record_at-rec.ensures ∙ ap (record_at c.args.book.now) c.from.ensures) c.of-p.ensures c.total-m.ensures c.loop-i-test.true c.child-c.ensures in
    let b = c.requires.1 in
    omega arith

pub loop-i-preserved-then-is_fine : goal.loop-i-preserved-then-is_fine
loop-i-preserved-then-is_fine t c =
    let f : c.child-c.result < c.args.r = child_below c.args.book.now c.requires.0 c.args.n c.args.r c.loop-i.i _ c.child-c.result _ _ c.requires.1
    (c.record_at-rec.ensures ∙ ap (record_at c.args.book.now) c.from.ensures) c.of-p.ensures c.total-m.ensures c.loop-i-test.true c.child-c.ensures in
    λ d h. scope_pass c.args.book.now d c.loop-i.i _ _ _ _ c.loop-i-test.true c.child-c.ensures (c.is_fine.ensures c.if-is_fine.true (d - 1) (omega arith))
    ∙ c.loop-i.invariant d h

pub scope_at-requires : goal.scope_at-requires
scope_at-requires t c =
    let f : c.child-c.result < c.args.r = child_below c.args.book.now c.requires.0 c.args.n c.args.r c.loop-i.i _ c.child-c.result _ _ c.requires.1
    (c.record_at-rec.ensures ∙ ap (record_at c.args.book.now) c.from.ensures) c.of-p.ensures c.total-m.ensures c.loop-i-test.true c.child-c.ensures in
    let e = c.decreases in
    let b = c.requires.1 in
    (omega arith, (c.requires.0, omega arith))

pub loop-i-preserved : goal.loop-i-preserved
loop-i-preserved t c =
    let f : c.child-c.result < c.args.r = child_below c.args.book.now c.requires.0 c.args.n c.args.r c.loop-i.i _ c.child-c.result _ _ c.requires.1
    (c.record_at-rec.ensures ∙ ap (record_at c.args.book.now) c.from.ensures) c.of-p.ensures c.total-m.ensures c.loop-i-test.true c.child-c.ensures in
    λ d h. scope_turn c.args.book.now d c.loop-i.i _ _ _ _ _ _ c.loop-i-test.true c.child-c.ensures (c.scope_at.ensures (d - 1) (omega arith)) c.lower-v.ensures
    ∙ c.loop-i.invariant d h

pub returns : goal.returns
returns t c = λ d h. sym (lowest_end _ _ _ _ c.loop-i-test.false) ∙ c.loop-i.invariant d h
