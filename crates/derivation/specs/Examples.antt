-- Questions for the worked examples of proofs/Examples, and the book and statement that proofs/EnoughMisses refutes.
use Rattle.std.specs.Prelude.{◌≡◌, List, [], ◌∷◌, ◌++◌, false, ℕ, zero, suc, ◌<◌, replicate, Ok}
use Rattle.book.specs.Tree.{Text, Texts, offset, compound, no_text, and_text, Tie, Goal, Clauses, atom, and, suppose, clause, no_body, no_clause, and_clause, Question}
use Rattle.book.specs.Decode.{question_of}
use Rattle.machine.specs.Term.{Term, Terms, var, cons, nil}
use Rattle.machine.specs.Store.{open_entry, same, bound}
use Rattle.machine.specs.Machine.{Branch, Thread, on, answered, stop, advance}
use Rattle.machine.specs.Answers.{answer_in}
use Rattle.machine.specs.declared.Ending.TheVariants.{Enough}
use Rattle.machine.specs.Call.{Called, call}
use Rattle.derivation.specs.Demand3.{Derivable, InstanceOf}

-- symbols: constants a and b, a function f, predicates p, s and w
abbrev pub a : ℕ
a = 1

abbrev pub b : ℕ
b = 2

abbrev pub f : ℕ
f = 3

abbrev pub p : ℕ
p = 11

abbrev pub s : ℕ
s = 16

abbrev pub w : ℕ
w = 17

abbrev one : Text → Texts
one t = and_text t no_text

abbrev constant : ℕ → Texts
constant c = one (compound c no_text)

-- a clause without body, the only one of its run
abbrev fact : ℕ → List Tie → ℕ → Texts → Clauses
fact n ties head args = and_clause (clause n ties head args no_body) no_clause

-- `p => p`
abbrev pub supposed : Goal
supposed = suppose (fact 0 [] p no_text) (atom p no_text)

-- C6: no rules; `(p => p), p`
abbrev pub c6 : Question
c6 = record { clauses = no_clause; goal = and supposed (atom p no_text); unknowns = 0 }

-- C7: no rules; `w(X) => (w(a), w(b))`, X tied
abbrev pub c7 : Question
c7 = record {
  clauses = no_clause;
  goal = suppose (fact 1 (record { own = 0; outer = 0 } ∷ []) w (one (offset 0))) (and (atom w (constant a)) (atom w (constant b)));
  unknowns = 1;
}

-- C9: `s(Y,Y)`; `s(X,f(X))`
abbrev pub c9 : Question
c9 = record {
  clauses = fact 1 [] s (and_text (offset 0) (one (offset 0)));
  goal = atom s (and_text (offset 0) (one (compound f (one (offset 0)))));
  unknowns = 1;
}

-- the thread after n units, if each leads to one
unfoldable pub thread_after : ℕ → Thread → Thread
thread_after zero t = t
thread_after (suc n) t = elim (advance t) [
  | on ts ↦ elim ts [ [] ↦ t | u ∷ us ↦ thread_after n u ]
  | answered x ↦ t
  | stop m ↦ t
]

-- C9's branch at its look: X is open and Y the same as X
abbrev pub looked : Branch
looked = record { goals = []; store = open_entry ∷ same 0 ∷ []; taken = 1; supposed = false }

-- the arguments of f(X)
abbrev pub just_x : Terms
just_x = cons (var 0) nil

-- the branch that C9 would come to with the look left out: X is bound to f(X)
abbrev pub unlooked : Branch
unlooked = record { goals = []; store = bound f just_x ∷ same 0 ∷ []; taken = 1; supposed = false }

-- THE BOOK of C3 extended: `p(a)`, `p(b)`; `p(X)`

-- a record with numbers below 256, the fields from p5 on 0
abbrev row : ℕ → ℕ → ℕ → ℕ → ℕ → List ℕ
row kind p1 p2 p3 p4 = kind ∷ 0 ∷ p1 ∷ 0 ∷ p2 ∷ 0 ∷ p3 ∷ 0 ∷ p4 ∷ 0 ∷ replicate 6 0

unfoldable pub two_facts : List ℕ
two_facts =
    row 2 a 0 0 0 ++ row 3 0 0 0 0 ++ row 4 p 1 1 0 ++ row 8 0 0 0 2
    ++ row 2 b 0 0 0 ++ row 3 4 0 0 0 ++ row 4 p 1 5 0 ++ row 8 0 0 0 6
    ++ row 1 0 0 0 0 ++ row 3 8 0 0 0 ++ row 4 p 1 9 0
    ++ row 3 3 0 0 0 ++ row 3 7 0 0 0 ++ row 10 11 2 10 1

-- asked for one answer
unfoldable pub asked_for_one : Called
asked_for_one = call two_facts 1_000_000 1 (replicate 16384 0) (replicate 64 0)

-- what is NOT promised: `SearchComplete` with ending 1 in the place of 0
abbrev pub EnoughComplete : List ℕ → Called → Type 0
EnoughComplete book x = x.reply.outcome ≡ Ok Enough → (ts : List Term) → Derivable (question_of book) ts
    → (k : ℕ) × (k < x.reply.tally.answers) × InstanceOf (answer_in x.out k) ts
