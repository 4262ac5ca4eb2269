use native.Mathlib.Omega.{arith}
use Rattle.words.proofs.SlotLaws.{good_some, word_back, word_before, through_term}
use Rattle.words.proofs.read_through.Goals as goal

pub overflow_sub-w : goal.overflow_sub-w
overflow_sub-w c = good_some _ _ _ c.requires.good

pub read_variable-requires : goal.read_variable-requires
read_variable-requires c = let p = c.requires in record { slots = p.slots; v_lt_made = word_before _ _ _ p.good c.if-w-lt4096.true }

pub returns-then-w-lt4096 : goal.returns-then-w-lt4096
returns-then-w-lt4096 c = word_back _ _ _ _ _ (good_some _ _ _ c.requires.good) c.read_variable.ensures

pub returns : goal.returns
returns c = let p = c.requires in record { walked = through_term _ c.args.book.now.readable _ _ p.slots _ p.good c.if-w-lt4096.false; good = p.good; unbound = λ h. absurd (omega (arith, c.if-w-lt4096.false)) }
