use mathlib.Core.Path.{◌∙◌, ap}
use Rattle.capi.specs.Six.{reply_six}
use Rattle.capi.proofs.whittermay_solve.Goals as goal

pub returns : goal.returns
returns c = record { reply_after = c.six.ensures ∙ ap reply_six c.solve.ensures.value; workspace_after = c.solve.ensures.workspace_after; out_after = c.solve.ensures.out_after }
