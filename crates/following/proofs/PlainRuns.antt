-- What the machine does with a plain rule: the atom is taken and the clause entered, two units, and the body stands in the atom's place.
use mathlib.Core.Path.{◌≡◌, refl, ◌∙◌, ap}
use mathlib.Core.List.{List, [], ◌∷◌, append-nil}
use Prim.Native.Nat.{ℕ, suc, ◌+◌, ◌*◌, ◌≤◌, ◌<◌}
use native.Mathlib.Omega.{arith}
use native.Mathlib.Decide.{dec_lt}
use borrow.Author.Tests.{le-leb, eq-eqb}
use lib.ListN.{length}
use Rattle.book.specs.Records.{field, records, members, last_record}
use Rattle.book.specs.Kinds.{kind_at, clause_kind}
use Rattle.book.specs.Tree.{Goal, Texts, Tie, no_text, with_body, ties_of, body_of, variables_of, head_arguments}
use Rattle.book.specs.Scoped.{ScopedBody, ScopedGoal}
use Rattle.book.specs.Decode.{clause_of, goal_of, arguments_of, texts_from, body_by}
use Rattle.book.proofs.Accepted.{Accepted}
use Rattle.book.proofs.Pointers.{clause_body}
use Rattle.book.proofs.Unfolding.{goal_atom, clause_of_lem, clause_variables, clause_does, count_arguments}
use Rattle.machine.specs.declared.Tally.{Tally}
use Rattle.machine.specs.Term.{Terms, instances, fills, pair_up}
use Rattle.machine.specs.Store.{new_entries}
use Rattle.machine.specs.Machine.{Force, Todo, Atom, Branch, Thread, solving, entering, on, advance, taking, try_all, took, todo, enter, entered, with_body_of, settle}
use Rattle.machine.specs.Answers.{Line}
use Rattle.machine.specs.Run.{Request, counted}
use Rattle.branch.specs.State.{own_run, rest_of, GoalHere}
use Rattle.branch.proofs.FromScoped.{own_ready}
use Rattle.branch.proofs.TakeLaws.{goal_unit}
use Rattle.branch.proofs.ClauseLaws.{ClauseHere, own_clause}
use Rattle.steps.specs.Search.{run_on, spent_units}
use Rattle.steps.proofs.RunLaws.{none_spent, unit_on}
use Rattle.following.specs.Plain.{own_program, Plain, Chain, Chain.chain_none, Chain.chain_more}
use Rattle.following.proofs.PlainLaws.{body_in}
use Rattle.seeking.proofs.SeekLaws.{rest_begins}

-- no variables: nothing is made
no_entries : (ties : List Tie) (o : ℕ) → new_entries ties o 0 ≡ []
unfolding new_entries members
no_entries ties o = refl

-- no arguments: no pairs
no_pairs : (e : ℕ) (ts : Texts) (us : Terms) → ts ≡ no_text → pair_up (instances e ts) us [] ≡ []
unfolding pair_up fills
no_pairs e ts us z = rw z refl

no_texts : (book : List ℕ) (g : ℕ) → field book g 2 ≡ 0 → arguments_of book g ≡ no_text
unfolding arguments_of texts_from
no_texts book g e = rw (arguments_of, e) refl

-- the branch with n goals taken, and goal h before the rest of the list
abbrev pub along : List ℕ → Branch → List Todo → ℕ → ℕ → Branch
along book x gs h n = record { goals = todo (goal_of book h) (length x.store) (own_program book) ∷ gs; store = x.store; taken = n; supposed = x.supposed }

module _ (book : List ℕ) (A : Accepted book) (g b : ℕ) (P : Plain book g b) where
  abbrev c : ℕ
  c = field book ((own_run book).first + P.i) 1

  in_book : c < records book
  in_book = ((own_ready book A).run P.i P.below).1

  kind_c : kind_at book c ≡ clause_kind
  kind_c = (own_ready book A).kinds P.i P.below

  abbrev force : Force
  force = record { text = clause_of book c; outer = 0 }

  bare : variables_of (clause_of book c) ≡ 0
  bare = clause_variables book A.formed c in_book kind_c ∙ P.clause.bare

  does : body_of (clause_of book c) ≡ with_body (goal_of book b)
  unfolding body_by
  does = clause_does book A.formed c in_book kind_c ∙ rw (body_by, eq-eqb (field book c 5) 1 P.clause.some, P.clause.body) refl

  clause_is : ClauseHere book (field book (last_record book) 4) force c 0
  clause_is =
      let O = own_ready book A in
      own_clause book A (field book (last_record book) 4) P.i force (rest_of book (own_run book) (suc P.i) []) (omega arith) P.below
      (rest_begins book A.formed 0 0 (own_run book) [] 0 (omega arith) (λ i a h. let z : i < (own_run book).count = omega arith in ((O.run i z).1, O.kinds i z)) P.i P.below)

  body_scoped : ScopedBody (field book c 1) (body_of (clause_of book c))
  body_scoped = let z = clause_of_lem book A.formed c in_book kind_c in rw (ap body_of z) (rw z at clause_is.scoped).2

  goal_scoped : ScopedGoal 0 (goal_of book b)
  goal_scoped = rw (does, P.clause.bare) at body_scoped

  -- the body is a goal, whose holder has no variables
  pub body_here : (made : ℕ) → GoalHere book made b made
  body_here made =
      let x = clause_body book A.formed c in_book kind_c P.clause.some in
      record { inside = body_in book A.formed (own_ready book A) g b P; kind = rw P.clause.body at x.1; holder = 0; scoped = goal_scoped; room = omega arith }

  module _ (x : Branch) (base : ℕ) (gs : List Todo) (goals : x.goals ≡ todo (goal_of book g) base (own_program book) ∷ gs) (l : x.taken < 512) (room : length x.store ≤ 2048) where
    abbrev atom_taken_lem : Atom
    atom_taken_lem = record { symbol = field book g 1; arguments = arguments_of book g; base = base; program = own_program book }

    taken_unit : advance (solving x) ≡ on (entering (took x gs) atom_taken_lem force [] ∷ [])
    unfolding taking try_all
    taken_unit =
        goal_unit x (todo (goal_of book g) base (own_program book)) gs l goals
        ∙ ap (λ (z : Goal). on (taking x base (own_program book) gs z)) (goal_atom book A.formed g P.inside P.kind)
        ∙ rw (count_arguments book g, P.bare, P.only) refl

    entered_is : entered (took x gs) atom_taken_lem force ≡ along book x gs b (suc x.taken)
    unfolding with_body_of
    entered_is = rw (does, bare, no_entries (ties_of (clause_of book c)) 0, append-nil x.store) refl

    entered_unit : advance (entering (took x gs) atom_taken_lem force []) ≡ on (solving (along book x gs b (suc x.taken)) ∷ [])
    unfolding advance enter try_all settle
    entered_unit =
        let r : length x.store + variables_of (clause_of book c) ≤ 2048 = omega (arith, bare) in
        rw (enter, le-leb (length x.store + variables_of (clause_of book c)) 2048 r, no_pairs base (arguments_of book g) (instances (length x.store) (head_arguments (clause_of book c))) (no_texts book g P.bare), entered_is) refl

    pub rule_units : (q : Request) (n : ℕ) (y : Tally) (ls : List Line) (ts : List Thread)
        → run_on q (suc (suc n)) y ls (solving x ∷ ts) ≡ run_on q n (counted (counted y)) ls (solving (along book x gs b (suc x.taken)) ∷ ts)
    rule_units q n y ls ts = unit_on q (suc n) (solving x) _ ts y ls taken_unit ∙ unit_on q n _ _ ts (counted y) ls entered_unit

-- A CHAIN of them: two units a rule
two_more_lem : (n k : ℕ) (y : Tally) → k ≡ n + 2 → counted (counted (spent_units n y)) ≡ spent_units k y
unfolding counted spent_units
two_more_lem n k y e = let z : suc (suc (y.units + n)) ≡ y.units + k = omega arith in rw z refl

chain_start : {book : List ℕ} {g h n : ℕ} → Chain book g h n → n ≡ 0 → h ≡ g
chain_start (chain_none e z) d = e
chain_start (chain_more C P z) d = absurd (omega arith)

-- a chain that is not empty leads to the body of a rule
pub chain_goal : {book : List ℕ} {g h n : ℕ} → Accepted book → (made : ℕ) → Chain book g h n → 0 < n → GoalHere book made h made
chain_goal A made (chain_none e z) s = absurd (omega arith)
chain_goal {book} A made (chain_more {h = h} {k = k} C P z) s = body_here book A h k P made

module _ (book : List ℕ) (A : Accepted book) (g : ℕ) (x : Branch) (base : ℕ) (gs : List Todo) (goals : x.goals ≡ todo (goal_of book g) base (own_program book) ∷ gs)
    (room : length x.store ≤ 2048) where
  abbrev Runs : ℕ → ℕ → Type 0
  Runs h n =
      (q : Request) (k : ℕ) (y : Tally) (ls : List Line) (ts : List Thread)
      → run_on q (2 * n + k) y ls (solving x ∷ ts) ≡ run_on q k (spent_units (2 * n) y) ls (solving (along book x gs h (x.taken + n)) ∷ ts)

  first_rule : (h : ℕ) → Plain book g h → x.taken < 512 → Runs h 1
  first_rule h P l q k y ls ts =
      let a : 2 * 1 + k ≡ suc (suc k) = omega arith in
      let b : x.taken + 1 ≡ suc x.taken = omega arith in
      rw (a, b, ← two_more_lem 0 (2 * 1) y (omega arith), ← none_spent y) (rule_units book A g h P x base gs goals l room q k y ls ts)

  next_rule : (h m j : ℕ) → Runs h m → Plain book h j → x.taken + m < 512 → Runs j (suc m)
  next_rule h m j R P l q k y ls ts =
      let a : 2 * suc m + k ≡ 2 * m + suc (suc k) = omega arith in
      let b : x.taken + suc m ≡ suc (x.taken + m) = omega arith in
      rw (a, b, ← two_more_lem (2 * m) (2 * suc m) y (omega arith))
      (R q (suc (suc k)) y ls ts ∙ rule_units book A h j P (along book x gs h (x.taken + m)) (length x.store) gs refl l room q k (spent_units (2 * m) y) ls ts)

  pub chain_runs : (h n : ℕ) → Chain book g h n → 0 < n → x.taken + n ≤ 512 → Runs h n
  chain_runs h n (chain_none e z) s l = absurd (omega arith)
  chain_runs j n (chain_more {h = h} {m = m} C P z) s l = by (dec_lt 0 m) (λ t u. chain_runs h m C t u)
    where
      by : Dec (0 < m) → (0 < m → x.taken + m ≤ 512 → Runs h m) → Runs j n
      by (yes t) before = rw z (next_rule h m j (before t (omega arith)) P (omega arith))
      by (no t) before =
          let o : m ≡ 0 = omega arith in
          let i : n ≡ 1 = omega arith in
          rw i (first_rule j (rw (chain_start C o) at P) (omega arith))
