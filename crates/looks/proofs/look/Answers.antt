use native.Mathlib.Omega.{arith}
use borrow.Author.Rules.{rules}
use Rattle.words.specs.Words.{rec_of, base_of}
use Rattle.words.proofs.StackLaws.{keeps_refl, keeps_trans}
use Rattle.looks.proofs.LookLoop.{look_bare, inv_start, inv_slots, inv_more, inv_found, inv_full, inv_spent, inv_done, look_spent}
use Rattle.looks.proofs.look.Goals as goal

pub returns-then-left-eq0 : goal.returns-then-left-eq0
returns-then-left-eq0 c = record { keeps = keeps_refl _ _ _; look_went = look_spent _ _ _ _ _ _ c.if-left-eq0.true }

pub field-m-requires : goal.field-m-requires
unfolding rec_of
field-m-requires c = let p = c.requires in record { r_bound = p.good_term.term.0; k_bound = search rules }

pub returns-then-m-eq0 : goal.returns-then-m-eq0
unfolding rec_of
returns-then-m-eq0 c = let p = c.requires in record { keeps = keeps_refl _ _ _; look_went = look_bare _ _ _ p.slots _ _ _ c.args.book.now.readable p.good_term c.if-left-eq0.false _ c.field-m.ensures.0 c.if-m-eq0.true }

pub field-first-requires : goal.field-first-requires
unfolding rec_of
field-first-requires c = let p = c.requires in record { r_bound = p.good_term.term.0; k_bound = search rules }

pub loop-used-init : goal.loop-used-init
unfolding rec_of base_of
loop-used-init c = let p = c.requires in inv_start _ _ _ p.slots _ _ _ c.args.book.now.readable p.good_term c.if-left-eq0.false _ c.field-m.ensures.0 _ c.field-first.ensures.0 c.if-m-eq0.false _ (omega arith)

pub look_step-requires : goal.look_step-requires
look_step-requires c = let p = c.requires in
    let i = c.loop-used.invariant in record { slots = inv_slots _ _ _ p.slots _ _ _ _ _ _ i; listed = i.listed; v_nonzero = (p.v_nonzero, record { start = c.field-first.ensures.0; many = c.field-m.ensures.0; some = omega (arith, c.if-m-eq0.false) }) }

pub loop-used-preserved : goal.loop-used-preserved
loop-used-preserved c = let p = c.requires in
    let i = c.loop-used.invariant in inv_more _ _ _ p.slots _ _ _ _ _ _ i _ _ _ _ (omega arith) (omega arith) c.look_step.ensures.keeps c.look_step.ensures.look_stepped c.in-On.is

pub returns-in-Over : goal.returns-in-Over
returns-in-Over c = let p = c.requires in
    let i = c.loop-used.invariant in record { keeps = keeps_trans i.keeps c.look_step.ensures.keeps; look_went = inv_done _ _ _ p.slots _ _ _ _ _ _ i _ _ (omega arith) c.look_step.ensures.look_stepped c.in-Over.is }

pub returns-in-Found : goal.returns-in-Found
returns-in-Found c = let p = c.requires in
    let i = c.loop-used.invariant in record { keeps = keeps_trans i.keeps c.look_step.ensures.keeps; look_went = inv_found _ _ _ p.slots _ _ _ _ _ _ i _ _ (omega arith) c.look_step.ensures.look_stepped c.in-Found.is }

pub returns-in-Full : goal.returns-in-Full
returns-in-Full c = let p = c.requires in
    let i = c.loop-used.invariant in record { keeps = keeps_trans i.keeps c.look_step.ensures.keeps; look_went = inv_full _ _ _ p.slots _ _ _ _ _ _ i _ _ (omega arith) c.look_step.ensures.look_stepped c.in-Full.is }

pub returns : goal.returns
returns c = let p = c.requires in let i = c.loop-used.invariant in record { keeps = i.keeps; look_went = inv_spent _ _ _ p.slots _ _ _ _ _ _ i (omega arith) }
