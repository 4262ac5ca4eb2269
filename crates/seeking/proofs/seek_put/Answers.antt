use native.Mathlib.Omega.{arith}
use mathlib.Core.Path.{◌≡◌, refl, sym, ◌∙◌}
use Rattle.seeking.specs.Seeking.{SoughtPut.put_here, SoughtPut.put_nowhere}
use Rattle.seeking.proofs.SeekChain.{word_large, goal_ready, first_here, first_none, sought_as, put_as, put_at_lem}
use Rattle.seeking.proofs.seek_put.Goals as goal

pub loop-q-init : goal.loop-q-init
loop-q-init c = (c.requires.standing, λ md tp r x. (r, x, refl))

pub overflow_mul-at : goal.overflow_mul-at
overflow_mul-at c = let x = put_at_lem c.loop-q-test.true c.loop-q.invariant.0.1 in omega (arith, x.below, c.requires.few)

pub overflow_add-at : goal.overflow_add-at
overflow_add-at c = let x = put_at_lem c.loop-q-test.true c.loop-q.invariant.0.1 in omega (arith, x.below, c.requires.few)

pub bounds-ws-at : goal.bounds-ws-at
bounds-ws-at c = let x = put_at_lem c.loop-q-test.true c.loop-q.invariant.0.1 in omega (arith, x.below, c.requires.few)

pub overflow_sub-s : goal.overflow_sub-s
overflow_sub-s c = let x = put_at_lem c.loop-q-test.true c.loop-q.invariant.0.1 in omega (arith, word_large _ c.args.book.now.readable c.requires.formed _ _ _ _ _ _ x)

pub first_of-requires : goal.first_of-requires
first_of-requires c = let x = put_at_lem c.loop-q-test.true c.loop-q.invariant.0.1 in let S = c.requires in
    record { formed = (S.formed, S.indexed.supposed); s_bound = goal_ready _ c.args.book.now.readable S.formed _ _ _ _ _ _ x }

pub overflow_mul-result : goal.overflow_mul-result
overflow_mul-result c = let x = put_at_lem c.loop-q-test.true c.loop-q.invariant.0.1 in omega (arith, x.below, c.requires.few, c.in-Some.ensures.1)

pub overflow_add-result : goal.overflow_add-result
overflow_add-result c = let x = put_at_lem c.loop-q-test.true c.loop-q.invariant.0.1 in omega (arith, x.below, c.requires.few, c.in-Some.ensures.1)

pub overflow_add-result-in-Some : goal.overflow_add-result-in-Some
overflow_add-result-in-Some c = let x = put_at_lem c.loop-q-test.true c.loop-q.invariant.0.1 in omega (arith, x.below, c.requires.few, c.in-Some.ensures.1)

pub returns-in-Some : goal.returns-in-Some
returns-in-Some c =
    let x = put_at_lem c.loop-q-test.true c.loop-q.invariant.0.1 in (
      omega (arith, x.below, c.requires.few, c.in-Some.ensures.1),
      λ md tp rest₀ z.
          let i = c.loop-q.invariant.1 md tp rest₀ z in
          let y = put_at_lem c.loop-q-test.true i.1 in
          put_here {x = record { program = c.loop-q.q; clause = c.in-Some.j }} refl (omega (arith, c.in-Some.ensures.1)) (sought_as i.2 (first_here _ c.args.book.now.readable c.requires.formed _ _ _ _ _ y _ _ _ c.first_of.ensures.0 _ c.in-Some.is)),
    )

pub bounds-ws-at-in-loop-q : goal.bounds-ws-at-in-loop-q
bounds-ws-at-in-loop-q c = let x = put_at_lem c.loop-q-test.true c.loop-q.invariant.0.1 in omega (arith, x.below, c.requires.few)

pub known-requires : goal.known-requires
known-requires c = let x = put_at_lem c.loop-q-test.true c.loop-q.invariant.0.1 in let S = c.requires in record { q_bound = (c.if-q-gt0.true, omega (arith, x.below, x.falls, x.link), S.few, S.count); by_index = S.memo }

pub returns-in-Some-known : goal.returns-in-Some-known
returns-in-Some-known c = (
  c.in-Some-known.ensures.0,
  λ md tp rest₀ z.
      let i = c.loop-q.invariant.1 md tp rest₀ z in
      let y = put_at_lem c.loop-q-test.true i.1 in
      put_as (sym (first_none _ c.args.book.now.readable c.requires.formed _ _ _ _ _ y _ _ _ c.first_of.ensures.0 c.in_default.is) ∙ i.2) (c.in-Some-known.ensures.1 md tp y.program (rw y.link y.before)),
)

pub loop-q-smaller-in_default-known : goal.loop-q-smaller-in_default-known
loop-q-smaller-in_default-known c = let x = put_at_lem c.loop-q-test.true c.loop-q.invariant.0.1 in omega (arith, x.falls, x.link)

pub loop-q-preserved-in_default-known : goal.loop-q-preserved-in_default-known
loop-q-preserved-in_default-known c =
    let x = put_at_lem c.loop-q-test.true c.loop-q.invariant.0.1 in (
      (x.program, rw x.link x.before),
      λ md tp rest₀ z.
          let i = c.loop-q.invariant.1 md tp rest₀ z in
          let y = put_at_lem c.loop-q-test.true i.1 in
          (y.program, rw y.link y.before, sym (first_none _ c.args.book.now.readable c.requires.formed _ _ _ _ _ y _ _ _ c.first_of.ensures.0 c.in_default.is) ∙ i.2),
    )

pub loop-q-smaller : goal.loop-q-smaller
loop-q-smaller c = let x = put_at_lem c.loop-q-test.true c.loop-q.invariant.0.1 in omega (arith, x.falls, x.link)

pub loop-q-preserved : goal.loop-q-preserved
loop-q-preserved c =
    let x = put_at_lem c.loop-q-test.true c.loop-q.invariant.0.1 in (
      (x.program, rw x.link x.before),
      λ md tp rest₀ z.
          let i = c.loop-q.invariant.1 md tp rest₀ z in
          let y = put_at_lem c.loop-q-test.true i.1 in
          (y.program, rw y.link y.before, sym (first_none _ c.args.book.now.readable c.requires.formed _ _ _ _ _ y _ _ _ c.first_of.ensures.0 c.in_default.is) ∙ i.2),
    )

pub returns : goal.returns
returns c = (omega arith, λ md tp rest₀ z. let i = c.loop-q.invariant.1 md tp rest₀ z in let q : c.loop-q.q ≡ 0 = omega (arith, c.loop-q-test.false) in put_nowhere refl (rw q at i.1) i.2)
