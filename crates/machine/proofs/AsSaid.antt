-- The replies of Worked, by computation. The edits of must-fail/ change a definition, and these replies refuse them.
use mathlib.Core.Path.{◌≡◌, refl}
use mathlib.Core.List.{List, [], ◌∷◌, map}
use Prim.Native.Nat.{ℕ}
use Rattle.book.specs.Records.{members}
use Rattle.book.specs.Tree.{count_texts, tie_of}
use Rattle.machine.specs.Term.{count, fill, spread, pair_up}
use Rattle.machine.specs.Store.{entry_at, follow, walk, entry_for, new_entries}
use Rattle.machine.specs.Machine.{settle, candidates, added, try_all, taking, solve, with_body_of, enter, order, pair, look_on, look, advance}
use Rattle.machine.specs.Answers.{Line, before, place_of, note, write}
use Rattle.machine.specs.Run.{Result, limit_number, ending_number, counted, given, go_on, answering, after, step, run, start, solved}
use Rattle.machine.proofs.Worked.{Row, stated, compared, worked}

unfoldable pub line_numbers : Line → List ℕ
line_numbers l = l.answer ∷ l.what ∷ l.number ∷ l.args ∷ []

unfoldable pub result_numbers : Result → List (List ℕ)
result_numbers x = (ending_number x.ending ∷ x.tally.answers ∷ x.tally.assumed ∷ x.tally.units ∷ []) ∷ map line_numbers x.lines

-- the run of a row; to unfold it is to unfold the whole machine
unfoldable pub computed : Row → List (List ℕ)
unfolding members count_texts tie_of count fill spread pair_up entry_at follow walk entry_for new_entries settle candidates added try_all taking solve with_body_of enter order pair look_on look advance before place_of note write limit_number ending_number counted given go_on answering after step run start solved line_numbers result_numbers
computed x = result_numbers (solved x.question x.wanted x.places x.budget)

abbrev pub AsSaid : List Row → Type 0
AsSaid rows = map computed rows ≡ map (λ (x : Row). x.replied) rows

pub stated_as_said : AsSaid stated
unfolding computed stated
stated_as_said = refl

pub worked_as_said : AsSaid worked
unfolding computed worked
worked_as_said = refl

pub compared_as_said : AsSaid compared
unfolding computed compared
compared_as_said = refl
