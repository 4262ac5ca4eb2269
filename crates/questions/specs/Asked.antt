-- What is asked of a book, and what is printed after the call.
use Rattle.std.specs.Prelude.{◌≡◌, List, [], ◌∷◌, map, true, false, ℕ, ◌/◌, eqb, length, replicate, Ok, Err}
use Rattle.machine.specs.Answers.{Line, lines_in}
use Rattle.machine.specs.Call.{Called, call, reply_numbers}
use Rattle.questions.specs.Building.{book_of}

-- the answer records of a buffer, up to the first unused place
unfoldable pub records_said : List Line → List (List ℕ)
records_said [] = []
records_said (l ∷ ls) = elim (eqb l.what 0) [ true ↦ [] | false ↦ (l.answer ∷ l.what ∷ l.number ∷ l.args ∷ []) ∷ records_said ls ]

-- The lines that the program prints after a call: the reply, then each answer record; refused, the number and the record (after the word `refused`).
unfoldable pub printed : Called → List (List ℕ)
printed x = reply_numbers x.reply ∷ elim x.reply.outcome
    [ Err e ↦ [] | Ok e ↦ records_said (lines_in (length x.out / 8) x.out) ]

-- A call with a book's bytes: answers wanted, budget, bytes of answer buffer. Neither the workspace nor the buffer is zero before.
unfoldable pub asked : List (List ℕ) → ℕ → ℕ → ℕ → Called
asked book wanted budget bytes = call (book_of book) budget wanted (replicate 16384 7) (replicate bytes 7)

-- a book, the answers wanted, the budget, and what is printed
pub record Reference : Type 0 where
  pub book : List (List ℕ)
  pub wanted : ℕ
  pub budget : ℕ
  pub reply : List (List ℕ)

abbrev pub row : List (List ℕ) → ℕ → ℕ → List (List ℕ) → Reference
row x wanted budget y = record { book = x; wanted = wanted; budget = budget; reply = y }

-- a reply's ending, answers, assumed, units; or the four numbers of an answer record
abbrev pub four : ℕ → ℕ → ℕ → ℕ → List ℕ
four e n m u = e ∷ n ∷ m ∷ u ∷ []

-- a refusal: the number and the record
abbrev pub refusal : ℕ → ℕ → List (List ℕ)
refusal t r = (t ∷ r ∷ []) ∷ []

-- what is printed with the answer buffer of the program, 4,096 bytes
unfoldable pub reply_to : Reference → List (List ℕ)
reply_to x = printed (asked x.book x.wanted x.budget 4096)

-- every book of a list replies as its row says
abbrev pub AsSaid : List Reference → Type 0
AsSaid rows = map reply_to rows ≡ map (λ (x : Reference). x.reply) rows
