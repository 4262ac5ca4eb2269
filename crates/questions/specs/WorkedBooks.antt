-- The worked examples as books: the dozen of crate machine's proofs/Worked, in the same order. They are no part of C1 to C13.
use Rattle.std.specs.Prelude.{List, [], ◌∷◌, ℕ}
use Rattle.questions.specs.Building.{variable, term, link, atom, and, or, suppose, fact, rule, tie, ask}
use Rattle.questions.specs.Books.{a, b, f, g, p, q, c, s, c10}

-- `p :- q`; `q => p`
abbrev callers_program : List (List ℕ)
callers_program = atom p 0 0 ∷ atom q 0 0 ∷ rule 0 0 0 0 1 ∷ link 2 ∷ atom q 0 0 ∷ fact 0 0 0 4 ∷ link 5 ∷ atom p 0 0 ∷ suppose 6 1 7 ∷ ask 3 1 8 0 ∷ []

-- `p :- (q => q)`; `p, q`
abbrev after_body : List (List ℕ)
after_body = atom p 0 0 ∷ atom q 0 0 ∷ fact 0 0 0 1 ∷ link 2 ∷ atom q 0 0 ∷ suppose 3 1 4 ∷ rule 0 0 0 0 5 ∷ link 6
    ∷ atom p 0 0 ∷ atom q 0 0 ∷ and 8 9 ∷ ask 7 1 10 0 ∷ []

-- `p(Z) :- c(Z)`, `c(a)`, `c(b)`; `p(X), p(Y)`
abbrev own_variables : List (List ℕ)
own_variables = variable 0 ∷ link 0 ∷ atom p 1 1 ∷ variable 0 ∷ link 3 ∷ atom c 1 4 ∷ rule 1 0 0 2 5
    ∷ term a 0 0 ∷ link 7 ∷ atom c 1 8 ∷ fact 0 0 0 9 ∷ term b 0 0 ∷ link 11 ∷ atom c 1 12 ∷ fact 0 0 0 13
    ∷ link 6 ∷ link 10 ∷ link 14 ∷ variable 0 ∷ link 18 ∷ atom p 1 19 ∷ variable 1 ∷ link 21 ∷ atom p 1 22 ∷ and 20 23 ∷ ask 15 3 24 2 ∷ []

-- `(p :- (q(Z) => q(a))) => p`, Z tied to a variable of the clause for p, and that one to X
abbrev two_levels : List (List ℕ)
two_levels = atom p 0 0 ∷ variable 0 ∷ link 1 ∷ atom q 1 2 ∷ tie 0 1 ∷ fact 1 4 1 3 ∷ link 5 ∷ term a 0 0 ∷ link 7 ∷ atom q 1 8 ∷ suppose 6 1 9
    ∷ tie 1 0 ∷ rule 2 11 1 0 10 ∷ link 12 ∷ atom p 0 0 ∷ suppose 13 1 14 ∷ ask 0 0 15 1 ∷ []

-- `p(Z) :- (q(V) => q(a))`, V tied to Z; `p(X), p(Y)`
abbrev own_instance : List (List ℕ)
own_instance = variable 0 ∷ link 0 ∷ atom p 1 1 ∷ variable 0 ∷ link 3 ∷ atom q 1 4 ∷ tie 0 0 ∷ fact 1 6 1 5 ∷ link 7
    ∷ term a 0 0 ∷ link 9 ∷ atom q 1 10 ∷ suppose 8 1 11 ∷ rule 1 0 0 2 12 ∷ link 13
    ∷ variable 0 ∷ link 15 ∷ atom p 1 16 ∷ variable 1 ∷ link 18 ∷ atom p 1 19 ∷ and 17 20 ∷ ask 14 1 21 2 ∷ []

-- `c(a), c(b) => c(X)`
abbrev written_order : List (List ℕ)
written_order = term a 0 0 ∷ link 0 ∷ atom c 1 1 ∷ fact 0 0 0 2 ∷ term b 0 0 ∷ link 4 ∷ atom c 1 5 ∷ fact 0 0 0 6 ∷ link 3 ∷ link 7
    ∷ variable 0 ∷ link 10 ∷ atom c 1 11 ∷ suppose 8 2 12 ∷ ask 0 0 13 1 ∷ []

-- `p`; `(q => q) ; p`
abbrev assumed_once : List (List ℕ)
assumed_once = atom p 0 0 ∷ fact 0 0 0 0 ∷ link 1 ∷ atom q 0 0 ∷ fact 0 0 0 3 ∷ link 4 ∷ atom q 0 0 ∷ suppose 5 1 6 ∷ atom p 0 0 ∷ or 7 8 ∷ ask 2 1 9 0 ∷ []

-- `p(f(a),b)`; `p(f(b),b)`
abbrev pairs_in_front : List (List ℕ)
pairs_in_front = term a 0 0 ∷ link 0 ∷ term f 1 1 ∷ term b 0 0 ∷ link 2 ∷ link 3 ∷ atom p 2 4 ∷ fact 0 0 0 6 ∷ link 7
    ∷ term b 0 0 ∷ link 9 ∷ term f 1 10 ∷ term b 0 0 ∷ link 11 ∷ link 12 ∷ atom p 2 13 ∷ ask 8 1 15 0 ∷ []

-- `s(Y,Y)`; `s(X,f(g(b),X))`
abbrev look_in_front : List (List ℕ)
look_in_front = variable 0 ∷ variable 0 ∷ link 0 ∷ link 1 ∷ atom s 2 2 ∷ fact 1 0 0 4 ∷ link 5 ∷ variable 0
    ∷ term b 0 0 ∷ link 8 ∷ term g 1 9 ∷ variable 0 ∷ link 10 ∷ link 11 ∷ term f 2 12 ∷ link 7 ∷ link 14 ∷ atom s 2 15 ∷ ask 6 1 17 1 ∷ []

-- `s(f(U,V),V)`; `s(X,Y)`
abbrev open_answer : List (List ℕ)
open_answer = variable 0 ∷ variable 1 ∷ link 0 ∷ link 1 ∷ term f 2 2 ∷ variable 1 ∷ link 4 ∷ link 5 ∷ atom s 2 6 ∷ fact 2 0 0 8 ∷ link 9
    ∷ variable 0 ∷ variable 1 ∷ link 11 ∷ link 12 ∷ atom s 2 13 ∷ ask 10 1 15 2 ∷ []

-- the last two are C10 with room for one answer record, at two budgets
unfoldable pub worked_books : List (List (List ℕ))
worked_books = callers_program ∷ after_body ∷ own_variables ∷ two_levels ∷ own_instance ∷ written_order ∷ assumed_once ∷ pairs_in_front ∷ look_in_front ∷ open_answer
    ∷ c10 ∷ c10 ∷ []
