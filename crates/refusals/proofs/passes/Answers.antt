use mathlib.Core.Path.{sym, ◌∙◌}
use Rattle.refusals.proofs.PassLaws.{variable_passes, term_passes, link_passes, and_passes, suppose_passes, clause_passes, tie_passes}
use Rattle.refusals.proofs.passes.Goals as goal

pub returns-in-Variable : goal.returns-in-Variable
returns-in-Variable c = λ b. variable_passes _ c.args.i c.args.r _ c.in-Ok.ensures.0 c.in-Variable.is (sym c.zero_from.ensures ∙ b)

pub returns-in-Term : goal.returns-in-Term
returns-in-Term c = λ b. term_passes _ c.args.i c.args.r _ c.in-Ok.ensures.0 c.in-Term.is (c.term_passes.ensures b)

pub returns-in-Link : goal.returns-in-Link
returns-in-Link c = λ b. link_passes _ c.args.i c.args.r _ c.in-Ok.ensures.0 c.in-Link.is (sym c.link_fits.ensures ∙ b)

pub returns-in-And : goal.returns-in-And
returns-in-And c = λ b. and_passes _ c.args.i c.args.r _ c.in-Ok.ensures.0 c.in-And.is (c.and_passes.ensures b)

pub returns-in-Suppose : goal.returns-in-Suppose
returns-in-Suppose c = λ b. suppose_passes _ c.args.i c.args.r _ c.in-Ok.ensures.0 c.in-Suppose.is (c.suppose_passes.ensures b)

pub returns-in-Clause : goal.returns-in-Clause
returns-in-Clause c = λ b. clause_passes _ c.args.i c.args.r _ c.in-Ok.ensures.0 c.in-Clause.is (c.clause_passes.ensures b)

pub returns-in-Tie : goal.returns-in-Tie
returns-in-Tie c = λ b. tie_passes _ c.args.i c.args.r _ c.in-Ok.ensures.0 c.in-Tie.is (sym c.zero_from-in-Tie.ensures ∙ b)
