use mathlib.Core.Path.{sym}
use Rattle.capi.proofs.SixLaws.{six_declined, six_ended}
use Rattle.capi.proofs.six.Goals as goal

pub returns-in-Err : goal.returns-in-Err
returns-in-Err c = rw (c.from.ensures, c.from-in-Err.ensures) (sym (six_declined _ _ c.in-Err.is))

pub returns-in-Ok : goal.returns-in-Ok
returns-in-Ok c = rw c.from-in-Ok.ensures (sym (six_ended _ _ c.in-Ok.is))
