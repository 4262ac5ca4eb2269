use Rattle.pointing.proofs.MarkLaws.{mark_end, mark_step}
use borrow.Author.Rules.{rules}
use mathlib.Core.Path.{sym, ◌∙◌}
use Rattle.pointing.proofs.mark.Goals as goal

pub loop-i-preserved : goal.loop-i-preserved
loop-i-preserved c = (search rules, rw (c.bump_record.ensures, c.record_at.ensures) (sym (mark_step _ _ _ _ c.loop-i-test.true) ∙ c.loop-i.invariant.1))

pub returns : goal.returns
returns c = sym (mark_end _ _ _ _ c.loop-i-test.false) ∙ c.loop-i.invariant.1
