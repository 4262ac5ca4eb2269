use Rattle.answers.proofs.AnswerLaws.{start_slots, start_words_lem, start_none, end_keeps, end_written, end_cut}
use Rattle.answers.proofs.write_answer.Goals as goal

pub write_terms-a-requires-clause-slots : goal.write_terms-a-requires-clause-slots
write_terms-a-requires-clause-slots c = let p = c.requires in start_slots _ _ _ _ p.slots p.unknowns_le_made.1 p.no_numbers _ c.put_unknowns.ensures

pub write_terms-a-requires-clause-good_words : goal.write_terms-a-requires-clause-good_words
write_terms-a-requires-clause-good_words c = let p = c.requires in let t = p.unknowns_le_made in start_words_lem _ _ _ _ p.slots t.1 p.no_numbers _ c.put_unknowns.ensures t.0

pub write_terms-a-requires-clause-no_numbers : goal.write_terms-a-requires-clause-no_numbers
write_terms-a-requires-clause-no_numbers c = let p = c.requires in start_none _ _ _ _ p.slots p.unknowns_le_made.1 p.no_numbers _ c.put_unknowns.ensures

pub returns-then-is_err : goal.returns-then-is_err
returns-then-is_err c = let p = c.requires in let t = p.unknowns_le_made in let e = c.put_unknowns.ensures in
    let w = end_cut _ _ _ _ p.slots t.1 p.no_numbers _ e _ _ _ _ _ _ c.write_terms-a.ensures t.2 c.if-is_err.ensures.value _ c.clear.ensures in record { value = w.0; out_after = w.1; keeps = end_keeps _ _ _ _ p.slots t.1 p.no_numbers _ e _ _ _ _ _ _ c.write_terms-a.ensures _ c.clear_words.ensures }

pub returns-else-is_err : goal.returns-else-is_err
returns-else-is_err c = let p = c.requires in let t = p.unknowns_le_made in let e = c.put_unknowns.ensures in
    let w = end_written _ _ _ _ p.slots t.1 p.no_numbers _ e _ _ _ _ _ _ c.write_terms-a.ensures c.if-is_err.ensures.value in record { value = w.0; out_after = w.1; keeps = end_keeps _ _ _ _ p.slots t.1 p.no_numbers _ e _ _ _ _ _ _ c.write_terms-a.ensures _ c.clear_words.ensures }
