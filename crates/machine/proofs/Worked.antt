-- Questions as trees, with what they reply: those that document 01's shortcuts name, "Run and compared", and the worked examples,
-- the smallest that pin what C1 to C13 cannot. AsSaid computes the replies; crate questions has the worked examples as books.
use mathlib.Core.List.{List, [], ◌∷◌}
use Prim.Native.Nat.{ℕ, zero, suc}
use Rattle.book.specs.Tree.{Text, Texts, offset, compound, no_text, and_text, Tie, Goal, Clause, Clauses, atom, and, or, suppose, clause, no_body, with_body, no_clause, and_clause, Question}

-- WORDS FOR TREES

-- symbols: constants a b, functions f g, predicates from 11 up
abbrev pub a : Text
a = compound 1 no_text

abbrev pub b : Text
b = compound 2 no_text

abbrev pub f : Texts → Text
f = compound 3

abbrev pub g : Texts → Text
g = compound 4

abbrev pub p : ℕ
p = 11

abbrev pub q : ℕ
q = 12

abbrev pub c : ℕ
c = 13

abbrev pub d : ℕ
d = 14

abbrev pub r : ℕ
r = 15

abbrev pub s : ℕ
s = 16

abbrev pub w : ℕ
w = 17

-- the variable at an offset
abbrev pub X : Text
X = offset 0

abbrev pub Y : Text
Y = offset 1

abbrev one : Text → Texts
one t = and_text t no_text

abbrev two : Text → Text → Texts
two t u = and_text t (one u)

abbrev tie : ℕ → ℕ → List Tie
tie o outer = record { own = o; outer = outer } ∷ []

-- a clause without ties or body
abbrev fact : ℕ → ℕ → Texts → Clause
fact n h args = clause n [] h args no_body

-- a clause without ties, with a body
abbrev rule : ℕ → ℕ → Texts → Goal → Clause
rule n h args g = clause n [] h args (with_body g)

abbrev clauses : List Clause → Clauses
clauses [] = no_clause
clauses (x ∷ xs) = and_clause x (clauses xs)

abbrev asks : List Clause → Goal → ℕ → Question
asks cs g n = record { clauses = clauses cs; goal = g; unknowns = n }

-- ROWS

-- what is asked, with how many answers wanted, places for answer records and units of budget; the four numbers of the reply, then those of each answer record
pub record Row : Type 0 where
  pub question : Question
  pub wanted : ℕ
  pub places : ℕ
  pub budget : ℕ
  pub replied : List (List ℕ)

abbrev four : ℕ → ℕ → ℕ → ℕ → List ℕ
four e n m u = e ∷ n ∷ m ∷ u ∷ []

-- wanted 64, eight places, budget 1,000,000
abbrev plain : Question → List (List ℕ) → Row
plain x y = record { question = x; wanted = 64; places = 8; budget = 1_000_000; replied = y }

abbrev within : ℕ → Question → List (List ℕ) → Row
within n x y = record { question = x; wanted = 64; places = 8; budget = n; replied = y }

-- FROM DOCUMENT 01

-- C6: `(p => p), p`
abbrev c6 : Question
c6 = asks [] (and (suppose (clauses (fact 0 p no_text ∷ [])) (atom p no_text)) (atom p no_text)) 0

-- C7: `w(X) => (w(a), w(b))`, X tied
abbrev c7 : Question
c7 = asks [] (suppose (clauses (clause 1 (tie 0 0) w (one X) no_body ∷ [])) (and (atom w (one a)) (atom w (one b)))) 1

-- C9: `s(Y,Y)`; `s(X,f(X))`
abbrev c9 : Question
c9 = asks (fact 1 s (two X X) ∷ []) (atom s (two X (f (one X)))) 1

-- C10: `c(a)`; `c(b) => c(X)`
abbrev c10 : Question
c10 = asks (fact 0 c (one a) ∷ []) (suppose (clauses (fact 0 c (one b) ∷ [])) (atom c (one X))) 1

-- C13: `r(a)`, `r(b)`, `d(b)`; `(q => (r(X), q)), d(X)`
abbrev c13 : Question
c13 = asks (fact 0 r (one a) ∷ fact 0 r (one b) ∷ fact 0 d (one b) ∷ [])
    (and (suppose (clauses (fact 0 q no_text ∷ [])) (and (atom r (one X)) (atom q no_text))) (atom d (one X))) 1

-- `p :- p` with N n; `p`
abbrev loop : ℕ → Question
loop n = asks (rule n p no_text (atom p no_text) ∷ []) (atom p no_text) 0

-- eight arguments, the first of them t
abbrev eight : Text → Texts
eight t = and_text t (and_text a (and_text a (and_text a (and_text a (and_text a (two a a))))))

-- terms of eight arguments, nested n deep through their first
abbrev nested : ℕ → Text
nested zero = a
nested (suc n) = f (eight (nested n))

-- equal ground atoms of eight arguments, whose first argument nests n terms
abbrev equals : ℕ → Question
equals n = asks (fact 0 p (eight (nested n)) ∷ []) (atom p (eight (nested n))) 0

-- the questions that "Shortcuts that give wrong plots" and "These must not pass" name
unfoldable pub stated : List Row
stated =
    plain c9 (four 0 0 0 6 ∷ [])
    ∷ plain c6 (four 0 0 0 5 ∷ [])
    ∷ plain c7 (four 0 0 0 9 ∷ [])
    ∷ plain c10 (four 0 2 2 10 ∷ four 0 2 2 0 ∷ four 1 2 1 0 ∷ [])
    ∷ plain c13 (four 0 1 1 21 ∷ four 0 2 2 0 ∷ [])
    ∷ []

-- "Run and compared"
unfoldable pub compared : List Row
compared =
    within 1_025 (loop 0) (four 3 0 0 1024 ∷ [])
    ∷ within 1_024 (loop 0) (four 2 0 0 1024 ∷ [])
    ∷ plain (loop 64) (four 4 0 0 65 ∷ [])
    ∷ plain (equals 35) (four 0 1 0 291 ∷ [])
    ∷ plain (equals 36) (four 5 0 0 37 ∷ [])
    ∷ []

-- THE WORKED EXAMPLES

-- `p :- q`; `q => p`: the body is solved with the program of the call, with the supposition made since the clause was written
abbrev callers_program : Question
callers_program = asks (rule 0 p no_text (atom q no_text) ∷ []) (suppose (clauses (fact 0 q no_text ∷ [])) (atom p no_text)) 0

-- `p :- (q => q)`; `p, q`: what follows the call keeps its own program
abbrev after_body : Question
after_body = asks (rule 0 p no_text (suppose (clauses (fact 0 q no_text ∷ [])) (atom q no_text)) ∷ []) (and (atom p no_text) (atom q no_text)) 0

-- `p(Z) :- c(Z)`, `c(a)`, `c(b)`; `p(X), p(Y)`: each entry makes its own variables; going back goes into a body
abbrev own_variables : Question
own_variables = asks (rule 1 p (one X) (atom c (one X)) ∷ fact 0 c (one a) ∷ fact 0 c (one b) ∷ []) (and (atom p (one X)) (atom p (one Y))) 2

-- `(p :- (q(Z) => q(a))) => p`: Z is tied to a variable of the clause for p, and that one to the unknown X
abbrev two_levels : Question
two_levels = asks []
    (suppose (clauses (clause 2 (tie 1 0) p no_text (with_body (suppose (clauses (clause 1 (tie 0 1) q (one X) no_body ∷ [])) (atom q (one a)))) ∷ []))
    (atom p no_text)) 1

-- `p(Z) :- (q(V) => q(a))`, V tied to Z; `p(X), p(Y)`: a tie holds in the instance in which the suppose goal was taken
abbrev own_instance : Question
own_instance = asks (rule 1 p (one X) (suppose (clauses (clause 1 (tie 0 0) q (one X) no_body ∷ [])) (atom q (one a))) ∷ [])
    (and (atom p (one X)) (atom p (one Y))) 2

-- `c(a), c(b) => c(X)`: supposed clauses stand in written order
abbrev written_order : Question
written_order = asks [] (suppose (clauses (fact 0 c (one a) ∷ fact 0 c (one b) ∷ [])) (atom c (one X))) 1

-- `p`; `(q => q) ; p`: an answer is assumed by the suppose goals of its own branch
abbrev assumed_once : Question
assumed_once = asks (fact 0 p no_text ∷ []) (or (suppose (clauses (fact 0 q no_text ∷ [])) (atom q no_text)) (atom p no_text)) 0

-- `p(f(a),b)`; `p(f(b),b)`: argument pairs go to the front, so the second argument is never taken
abbrev pairs_in_front : Question
pairs_in_front = asks (fact 0 p (two (f (one a)) b) ∷ []) (atom p (two (f (one b)) b)) 0

-- `s(Y,Y)`; `s(X,f(g(b),X))`: the look takes f(g(b),X), g(b), b and X
abbrev look_in_front : Question
look_in_front = asks (fact 1 s (two X X) ∷ []) (atom s (two X (f (two (g (one b)) X)))) 1

-- `s(f(U,V),V)`; `s(X,Y)`: symbol before arguments, and one numbering of the open variables for the whole answer
abbrev open_answer : Question
open_answer = asks (fact 2 s (two (f (two X Y)) Y) ∷ []) (atom s (two X Y)) 2

unfoldable pub worked : List Row
worked =
    plain callers_program (four 0 1 1 6 ∷ [])
    ∷ plain after_body (four 0 0 0 7 ∷ [])
    ∷ plain own_variables (four 0 4 0 35
    ∷ four 0 2 1 0 ∷ four 0 2 1 0 ∷ four 1 2 1 0 ∷ four 1 2 2 0 ∷ four 2 2 2 0 ∷ four 2 2 1 0 ∷ four 3 2 2 0 ∷ four 3 2 2 0 ∷ [])
    ∷ plain two_levels (four 0 1 1 9 ∷ four 0 2 1 0 ∷ [])
    ∷ plain own_instance (four 0 1 1 18 ∷ four 0 2 1 0 ∷ four 0 2 1 0 ∷ [])
    ∷ plain written_order (four 0 2 2 10 ∷ four 0 2 1 0 ∷ four 1 2 2 0 ∷ [])
    ∷ plain assumed_once (four 0 2 1 8 ∷ [])
    ∷ plain pairs_in_front (four 0 0 0 4 ∷ [])
    ∷ plain look_in_front (four 0 0 0 8 ∷ [])
    ∷ plain open_answer (four 0 1 0 8 ∷ four 0 2 3 2 ∷ four 0 1 0 0 ∷ four 0 1 1 0 ∷ four 0 1 1 0 ∷ [])
    -- C10 with a place for one record: the second answer has none. The budget is tested first, and the unit of an answer that is cut off is not counted.
    ∷ record { question = c10; wanted = 64; places = 1; budget = 9; replied = four 2 1 1 9 ∷ four 0 2 2 0 ∷ [] }
    ∷ record { question = c10; wanted = 64; places = 1; budget = 10; replied = four 6 1 1 9 ∷ four 0 2 2 0 ∷ [] }
    ∷ []
