use native.Mathlib.Omega.{arith}
use mathlib.Core.Path.{refl}
use Rattle.branch.specs.Alternatives.{keep_words}
use Rattle.branch.proofs.keep.Goals as goal

pub overflow_add-ws-8 : goal.overflow_add-ws-8
overflow_add-ws-8 c = omega (arith, c.requires.made_bound, c.requires.supposed_bound)

pub overflow_add-ws-10 : goal.overflow_add-ws-10
overflow_add-ws-10 c = omega (arith, c.requires.k_bound, c.requires.made_bound, c.requires.supposed_bound)

pub returns : goal.returns
unfolding keep_words
returns c = refl
