use mathlib.Core.Path.{sym}
use Rattle.scope.specs.Parts.{part_as}
use Rattle.scope.proofs.PartLaws.{links_read, two_read, suppose_read, clause_read, other_part, none_part}
use Rattle.scope.proofs.Part.of.Goals as goal

pub returns-in_default : goal.returns-in_default
returns-in_default c = sym (none_part c.args.n c.args.rec c.in_default.ensures.0)

pub returns-in-Term : goal.returns-in-Term
returns-in-Term c = sym (links_read c.args.n c.args.rec _ c.in-Ok.ensures.0 c.in-Term.is)

pub returns-in-And : goal.returns-in-And
returns-in-And c = sym (two_read c.args.n c.args.rec _ c.in-Ok.ensures.0 c.in-And.is)

pub returns-in-Suppose : goal.returns-in-Suppose
unfolding part_as
returns-in-Suppose c = sym (suppose_read c.args.n c.args.rec _ c.in-Ok.ensures.0 c.in-Suppose.is)

pub returns-in-Clause : goal.returns-in-Clause
unfolding part_as
returns-in-Clause c = rw c.body_count.ensures (sym (clause_read c.args.n c.args.rec _ c.in-Ok.ensures.0 c.in-Clause.is))

pub returns-in_default-kind : goal.returns-in_default-kind
returns-in_default-kind c =
    let d = c.in_default-kind in
    sym (other_part c.args.n c.args.rec _ c.in-Ok.ensures.0 d.not-Term d.not-Atom d.not-And d.not-Or d.not-Suppose d.not-Clause)
