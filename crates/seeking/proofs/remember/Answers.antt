use Rattle.seeking.proofs.MemoEntries.{memo_words_lem}
use Rattle.seeking.proofs.remember.Goals as goal

pub returns : goal.returns
returns c = memo_words_lem _ _ _ _ _ _ _ _ c.entry_at-e.ensures.0 c.head_rest.ensures.0
