use mathlib.Core.Path.{refl}
use Rattle.words.specs.Words.{term_word}
use Rattle.taking.specs.Takes.{plain_words, plain_regs}
use Rattle.taking.proofs.take_plain.Goals as goal

pub returns : goal.returns
unfolding plain_words plain_regs term_word
returns c = record { ws_after = c.put_cell.ensures; value = refl }
