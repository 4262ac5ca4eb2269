use mathlib.Core.Path.{sym, ◌∙◌}
use Rattle.targets.proofs.WithinLaws.{suppose_within}
use Rattle.refusals.proofs.suppose_passes.Goals as goal

pub suppose_targets-requires : goal.suppose_targets-requires
suppose_targets-requires c = suppose_within _ c.args.i c.args.r c.requires (sym c.suppose_fits.ensures ∙ c.if-suppose_fits.true)
