use mathlib.Core.Path.{refl}
use Rattle.words.proofs.ReadLaws.{in_book}
use Rattle.supposed.proofs.NoteLaws.{note_small}
use Rattle.supposed.proofs.NoteWords.{enter_written}
use Rattle.supposed.proofs.enter_clause.Goals as goal

pub note-requires : goal.note-requires
note-requires c = let p = c.requires in (rw c.field-c.ensures.0 (in_book _ c.args.book.now.readable _ (p.clause_run _ p.i_lt_n.0).1).1, rw c.note_of-next.ensures (note_small _ _))

pub returns : goal.returns
returns c =
    enter_written _ _ _ _ _ _ _ _ c.field-c.ensures.0 refl c.of_clause-head.ensures.0 c.of_clause-head.ensures.1
    _ _ _ _ _ _ _ _ c.small_bucket.ensures.0 c.note_of-next.ensures c.note.ensures
    c.note-2.ensures c.head_bucket.ensures.0 c.mark.ensures
