use Rattle.supposed.proofs.NoteWords.{buckets_none, buckets_more}
use Rattle.supposed.proofs.empty_run.Goals as goal

pub loop-b-init : goal.loop-b-init
loop-b-init c = buckets_none _ _ _

pub loop-b-preserved : goal.loop-b-preserved
loop-b-preserved c = buckets_more _ _ _ _ _ _ c.loop-b.invariant c.note.ensures
