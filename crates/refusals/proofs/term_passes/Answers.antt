use mathlib.Core.Path.{sym, ◌∙◌}
use Rattle.targets.proofs.WithinLaws.{term_within}
use Rattle.refusals.proofs.PassLaws.{bare_passes}
use Rattle.refusals.proofs.term_passes.Goals as goal

pub returns-then-r-eq0 : goal.returns-then-r-eq0
returns-then-r-eq0 c = λ b. bare_passes _ c.args.i c.args.r c.if-r-eq0.true (sym c.zero_from.ensures ∙ b)

pub term_targets-requires : goal.term_targets-requires
term_targets-requires c = term_within _ c.args.i c.args.r c.requires (sym c.term_fits.ensures ∙ c.if-term_fits.true)
