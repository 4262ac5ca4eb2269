-- The answers that a run of the machine gives, as terms: the stores of the branches that gave them, and what a store says of the unknowns, fully read through.
use Rattle.std.specs.Prelude.{◌≡◌, List, [], ◌∷◌, ◌++◌, ℕ, zero, suc, ◌-◌, ◌<◌, ◌/◌, length, Ok, Err}
use Rattle.book.specs.Refusals.{verdict}
use Rattle.book.specs.Decode.{question_of}
use Rattle.machine.specs.Term.{Term, Terms, var, app, nil, cons}
use Rattle.machine.specs.Store.{Entry, walk}
use Rattle.machine.specs.Machine.{Branch, Moved, on, answered, stop, advance}
use Rattle.machine.specs.Answers.{Written, written, cut, write, unknown_terms}
use Rattle.machine.specs.Run.{Request, State, next, ended, step, start}
use Rattle.derivation.specs.Derivation.{filling_of}

-- `Value s t u`: the term t, fully read through the bindings and ties of the store s, is u. It is one term at most (proofs/Values).
mutual
  pub data Value (s : List Entry) : Term → Term → Type 0 where
    open_value : {t : Term} {v : ℕ} → walk s t ≡ var v → Value s t (var v)
    term_value : {t : Term} {f : ℕ} {ts us : Terms} → walk s t ≡ app f ts → Values s ts us → Value s t (app f us)

  pub data Values (s : List Entry) : Terms → Terms → Type 0 where
    no_values : Values s nil nil
    more_values : {t u : Term} {ts us : Terms} → Value s t u → Values s ts us → Values s (cons t ts) (cons u us)

-- `AnswerOf s n ts`: ts are the values of the n unknowns, which are the variables 0 up, in the store s.
pub record AnswerOf (s : List Entry) (n : ℕ) (ts : List Term) : Type 0 where
  pub each : length ts ≡ n
  pub value : (o : ℕ) → o < n → Value s (var o) (filling_of ts o)

-- the store of a branch, if its answer was written: one cut off by a limit is not given
unfoldable pub store_if : Branch → Written → List (List Entry)
store_if b (written ls) = b.store ∷ []
store_if b (cut m) = []

-- the store of the answer that a unit gives, if it gives one
unfoldable pub given_by : Request → State → Moved → List (List Entry)
given_by q s (on ts) = []
given_by q s (answered b) = store_if b (write s.tally.answers b.store (q.places - length s.lines) [] (unknown_terms q.unknowns))
given_by q s (stop m) = []

-- the stores of the answers of a run, in order, along the recursion of `run`
unfoldable pub stores_given : Request → ℕ → State → List (List Entry)
stores_given q zero s = []
stores_given q (suc n) s = given_by q s (advance s.thread) ++ elim (step q s) [ next t ↦ stores_given q n t | ended e y ls ↦ [] ]

-- the stores of the answers of a call, in order; a refused call gives none
unfoldable pub stores_of : List ℕ → ℕ → ℕ → List ℕ → List ℕ → List (List Entry)
stores_of book budget wanted workspace out = elim (verdict (length workspace) (length out) wanted book) [
  | Ok _ ↦ stores_given (record { unknowns = (question_of book).unknowns; wanted = wanted; places = length out / 8 }) budget (start (question_of book))
  | Err e ↦ []
]
