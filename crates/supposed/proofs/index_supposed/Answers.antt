use native.Mathlib.Omega.{arith}
use mathlib.Core.Path.{sym, ◌∙◌}
use Rattle.supposed.proofs.NoteWords.{supposed_ready, supposed_more, supposed_none, supposed_on}
use Rattle.supposed.proofs.index_supposed.Goals as goal
use Rattle.supposed.proofs.index_supposed.Goals.{then-is, else-is}

pub loop-s-init : goal.loop-s-init
loop-s-init c = supposed_none _ _

pub index_run-requires : goal.index_run-requires
index_run-requires c = let r = supposed_ready _ _ _ _ (sym c.is.ensures ∙ c.if-is.true) c.read.ensures.0 c.read.ensures.1 c.args.book.now.readable c.requires.formed (omega (arith, c.records-s-end.ensures, c.loop-s-test.true)) in record { clause_run = r.0; n_bound = (r.2, r.3) }

pub loop-s-preserved : goal.loop-s-preserved
loop-s-preserved c =
    elim c.if-is.branch [
      | then-is w ↦ supposed_more _ _ _ _ (sym c.is.ensures ∙ w.if-is.true) w.read.ensures.0 w.read.ensures.1 _ (omega arith) _ _ _ c.loop-s.invariant (w.ws-is ∙ w.index_run.ensures)
      | else-is w ↦ supposed_on _ _ (sym c.is.ensures ∙ w.if-is.false) _ (omega arith) _ _ (w.ws-is ∙ c.loop-s.invariant)
    ]
