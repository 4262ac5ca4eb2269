use Rattle.taking.specs.Takes.{or_regs}
use Rattle.branch.proofs.KeepLaws.{flag_small}
use Rattle.taking.proofs.WrittenLaws.{or_written}
use borrow.Author.Rules.{rules}
use Rattle.taking.proofs.take_or.Goals as goal

pub keep-requires : goal.keep-requires
keep-requires c = record { k_bound = search rules; made_bound = search rules; supposed_bound = (rw c.from.ensures (flag_small c.args.b.supposed), search rules, search rules, search rules) }

pub returns : goal.returns
unfolding or_regs
returns c = record { ws_after = or_written _ _ _ _ _ _ _ _ _ _ _ c.field-left.ensures.0 c.field-right.ensures.0 c.from.ensures c.put_cell.ensures c.keep.ensures c.put_cell-2.ensures; value = c.in_hand.ensures }
