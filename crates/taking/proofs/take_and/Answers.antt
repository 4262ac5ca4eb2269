use Rattle.taking.specs.Takes.{and_regs}
use Rattle.taking.proofs.WrittenLaws.{and_written}
use Rattle.taking.proofs.take_and.Goals as goal

pub returns : goal.returns
unfolding and_regs
returns c = record { ws_after = and_written _ _ _ _ _ _ _ _ c.field-left.ensures.0 c.field-right.ensures.0 c.put_cell.ensures c.put_cell-2.ensures; value = c.in_hand.ensures }
