use Rattle.running.proofs.HandLaws.{words_room, midway_forgets, answer_ready}
use Rattle.running.proofs.AnswerTurns.{answer_cut, answer_enough, answer_more}
use Rattle.running.proofs.answer.Goals as goal

pub forget-requires : goal.forget-requires
forget-requires c = let p = c.requires in words_room p.midway.1.stands p.solving_value.0

pub write_answer-requires : goal.write_answer-requires
write_answer-requires c = let p = c.requires in let t = answer_ready _ _ _ _ _ _ _ _ _ _ _ p.taken p.midway.1 p.solving_value.0 _ c.forget.ensures in record { slots = t.0; unknowns_le_made = t.1; no_numbers = t.2 }

pub returns-then-z-asked : goal.returns-then-z-asked
returns-then-z-asked c = let p = c.requires in let w = c.write_answer.ensures in λ whole M.
    answer_enough _ _ _ _ _ _ _ _ _ _ _ _ whole p.taken (midway_forgets _ _ _ _ _ _ _ _ _ _ _ p.taken M p.solving_value.0 _ c.forget.ensures) p.solving_value.0 p.solving_value.1 p.solving_value.2 w.keeps _ w.value w.out_after _ _ c.in-Ok.is c.count_answer-z.ensures c.if-z-asked.true

pub returns-in-Err : goal.returns-in-Err
returns-in-Err c = let p = c.requires in let w = c.write_answer.ensures in λ whole M.
    answer_cut _ _ _ _ _ _ _ _ _ _ _ _ whole p.taken (midway_forgets _ _ _ _ _ _ _ _ _ _ _ p.taken M p.solving_value.0 _ c.forget.ensures) p.solving_value.0 p.solving_value.1 p.solving_value.2 w.keeps _ w.value w.out_after _ c.in-Err.is

pub returns-else-z-asked : goal.returns-else-z-asked
returns-else-z-asked c = let p = c.requires in let w = c.write_answer.ensures in λ whole M.
    answer_more _ _ _ _ _ _ _ _ _ _ _ _ whole p.taken (midway_forgets _ _ _ _ _ _ _ _ _ _ _ p.taken M p.solving_value.0 _ c.forget.ensures) p.solving_value.0 p.solving_value.1 p.solving_value.2 w.keeps _ w.value w.out_after _ _ _ c.in-Ok.is c.count_answer-z.ensures c.if-z-asked.false c.to_back.ensures
