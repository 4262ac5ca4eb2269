use Rattle.taking.specs.Takes.{suppose_regs}
use Rattle.taking.proofs.WrittenLaws.{suppose_written}
use Rattle.taking.proofs.take_suppose.Goals as goal

pub returns : goal.returns
unfolding suppose_regs
returns c = record { ws_after = suppose_written _ _ _ _ _ _ _ _ c.field-goal.ensures.0 c.put_program.ensures c.put_cell.ensures; value = c.in_hand.ensures }
