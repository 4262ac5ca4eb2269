use native.Mathlib.Omega.{arith}
use mathlib.Core.Path.{refl}
use Rattle.words.specs.Words.{bind_words}
use Rattle.words.proofs.bind.Goals as goal

pub bounds-ws-n : goal.bounds-ws-n
bounds-ws-n c = omega arith

pub returns : goal.returns
unfolding bind_words
returns c = refl
