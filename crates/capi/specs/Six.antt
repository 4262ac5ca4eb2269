-- The six numbers of a reply for a caller in C.
use Rattle.std.specs.Prelude.{List, [], ◌∷◌, ℕ, Ok, Err}
use Rattle.book.specs.Refusals.{test_number}
use Rattle.machine.specs.declared.Reply.{Reply}
use Rattle.machine.specs.Run.{ending_number}

-- Refusal number (0 when the call is accepted), record, ending, answers, assumed, units; 0 where a number does not apply.
-- No refusal has the number 0, so the first number tells the two cases apart.
unfoldable pub reply_six : Reply → List ℕ
reply_six x = elim x.outcome [
  | Err e ↦ test_number e.test ∷ e.failing ∷ 0 ∷ 0 ∷ 0 ∷ 0 ∷ []
  | Ok e ↦ 0 ∷ 0 ∷ ending_number e ∷ x.tally.answers ∷ x.tally.assumed ∷ x.tally.units ∷ []
]
