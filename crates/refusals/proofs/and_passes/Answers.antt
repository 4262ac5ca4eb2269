use mathlib.Core.Path.{sym, ◌∙◌}
use Rattle.targets.proofs.WithinLaws.{and_within}
use Rattle.refusals.proofs.and_passes.Goals as goal

pub and_targets-requires : goal.and_targets-requires
and_targets-requires c = and_within _ c.args.i c.args.r c.requires (sym c.and_fits.ensures ∙ c.if-and_fits.true)
