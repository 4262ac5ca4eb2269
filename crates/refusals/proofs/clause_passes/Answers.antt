use mathlib.Core.Path.{sym, ◌∙◌}
use Rattle.targets.proofs.WithinLaws.{clause_within}
use Rattle.refusals.proofs.clause_passes.Goals as goal

pub clause_targets-requires : goal.clause_targets-requires
clause_targets-requires c = clause_within _ c.args.i c.args.r c.requires (sym c.clause_fits.ensures ∙ c.if-clause_fits.true)
