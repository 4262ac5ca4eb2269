use Rattle.returning.proofs.BodyLaws.{body_put, body_none}
use Rattle.returning.proofs.put_body.Goals as goal

pub returns-in-Some : goal.returns-in-Some
returns-in-Some c = let t = body_put _ _ _ _ _ _ c.in-Some.ensures.value c.put_cell.ensures in record { ws_after = t.0; value = t.1 }

pub returns-in-None : goal.returns-in-None
returns-in-None c = let t = body_none _ _ _ _ c.in-None.ensures.value in record { ws_after = t.0; value = t.1 }
