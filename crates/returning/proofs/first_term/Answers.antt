use native.Mathlib.Omega.{arith}
use Rattle.returning.proofs.RenewLaws.{atom_large, atom_inside}
use Rattle.returning.proofs.PassLaws.{first_link, first_text}
use Rattle.returning.proofs.first_term.Goals as goal

pub overflow_sub-a : goal.overflow_sub-a
overflow_sub-a c = let p = c.requires in omega (arith, atom_large _ _ _ _ _ p.to_clause.1)

pub field-requires-clause-r_bound : goal.field-requires-clause-r_bound
field-requires-clause-r_bound c = atom_inside _ _ _ _ _ c.requires.to_clause.1

pub field-requires-2-clause-r_bound : goal.field-requires-2-clause-r_bound
field-requires-2-clause-r_bound c = atom_inside _ _ _ _ _ c.requires.to_clause.1

pub field-t-requires-clause-r_bound : goal.field-t-requires-clause-r_bound
field-t-requires-clause-r_bound c = let p = c.requires in first_link _ c.args.book.now.readable p.accepted _ _ _ _ p.to_clause.1 _ c.field.ensures.0 c.if-field-eq0.false _ c.field-2.ensures.0

pub word_for-requires-clause-text_rec : goal.word_for-requires-clause-text_rec
word_for-requires-clause-text_rec c = let p = c.requires in (first_text _ c.args.book.now.readable p.accepted _ _ _ _ p.to_clause.1 _ c.field.ensures.0 c.if-field-eq0.false _ _ c.field-2.ensures.0 c.field-t.ensures.0).0

pub read_through-w-requires : goal.read_through-w-requires
read_through-w-requires c = let p = c.requires in record { slots = p.to_clause.1.again.sound.slots; good = rw c.word_for.ensures (first_text _ c.args.book.now.readable p.accepted _ _ _ _ p.to_clause.1 _ c.field.ensures.0 c.if-field-eq0.false _ _ c.field-2.ensures.0 c.field-t.ensures.0).1 }
