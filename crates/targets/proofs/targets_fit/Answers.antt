use Rattle.targets.proofs.WithinLaws.{term_there, and_there, suppose_there, clause_there}
use Rattle.targets.proofs.targets_fit.Goals as goal

pub term_targets-requires : goal.term_targets-requires
term_targets-requires c = term_there _ c.args.r _ c.in-Ok.ensures.0 c.requires c.in-Term.is

pub and_targets-requires : goal.and_targets-requires
and_targets-requires c = and_there _ c.args.r _ c.in-Ok.ensures.0 c.requires c.in-And.is

pub suppose_targets-requires : goal.suppose_targets-requires
suppose_targets-requires c = suppose_there _ c.args.r _ c.in-Ok.ensures.0 c.requires c.in-Suppose.is

pub clause_targets-requires : goal.clause_targets-requires
clause_targets-requires c = clause_there _ c.args.r _ c.in-Ok.ensures.0 c.requires c.in-Clause.is
