use Rattle.branch.proofs.BackLaws.{undo_ready}
use Rattle.branch.proofs.go_back.Goals as goal

pub open_again-requires : goal.open_again-requires
open_again-requires c = let p = c.requires in let t = undo_ready _ _ _ _ c.kept-x.ensures p in record { from_le_to = t.0; small = t.1 }

pub returns : goal.returns
returns c = record { value = c.kept-x.ensures; ws_after = rw (← c.kept-x.ensures) c.open_again.ensures }
