use native.Mathlib.Omega.{arith}
use Rattle.words.proofs.ReadLaws.{in_book, four_both}
use Rattle.words.proofs.Book.symbol_and_count.Goals as goal

pub overflow_mul-r : goal.overflow_mul-r
overflow_mul-r c = let p = c.requires in omega (arith, in_book _ c.args.self.now.readable _ p.r_bound)

pub overflow_add-r : goal.overflow_add-r
overflow_add-r c = let p = c.requires in omega (arith, in_book _ c.args.self.now.readable _ p.r_bound)

pub four-requires : goal.four-requires
four-requires c = let p = c.requires in omega (arith, in_book _ c.args.self.now.readable _ p.r_bound, c.index.ensures)

pub returns : goal.returns
returns c = four_both _ _ _ _ c.index.ensures c.four.ensures
