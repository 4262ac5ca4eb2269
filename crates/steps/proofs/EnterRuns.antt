-- Entering a clause, as the machine says it.
use mathlib.Core.Path.{◌≡◌, refl, ◌∙◌, ap}
use mathlib.Core.List.{List, ◌∷◌}
use Prim.Native.Nat.{ℕ, ◌+◌}
use native.Mathlib.Omega.{arith}
use borrow.Author.Tests.{le-leb}
use lib.ListN.{length, take, length-map, length-take}
use Rattle.book.specs.Records.{field}
use Rattle.book.specs.Kinds.{kind_at, clause_kind}
use Rattle.book.specs.Tree.{body_of, ties_of, variables_of, head_arguments}
use Rattle.book.specs.Decode.{clause_of, arguments_of, ties_from}
use Rattle.book.proofs.Accepted.{Formed}
use Rattle.book.proofs.Unfolding.{clause_of_lem}
use Rattle.machine.specs.Machine.{entering, Branch, Atom, Force, on, advance, enter, entered, settle, try_all, with_body_of}
use Rattle.words.specs.Words.{entry_w, store_of}
use Rattle.unifier.specs.declared.Unified.{Unified}
use Rattle.steps.specs.Enters.{head_of, argument_pairs, EnterReady, Enters}

-- the atom of record a at base e, and the clause of record c
abbrev pub atom_here : List ℕ → ℕ → ℕ → List Force → Atom
atom_here book a e program = record { symbol = field book a 1; arguments = arguments_of book a; base = e; program = program }

abbrev pub force_here : List ℕ → ℕ → ℕ → Force
force_here book c o = record { text = clause_of book c; outer = o }

module _ (book : List ℕ) (F : Formed book) (made trail : ℕ) (ws ws' : List ℕ) (a e c o left : ℕ) (r : Unified) (X : EnterReady book made trail ws a e c o)
    (E : Enters book made trail ws ws' a e c o left r) (k : kind_at book c ≡ clause_kind) (b : Branch) (be : b.store ≡ store_of book ws made) (program : List Force) (cs : List Force) where
  vars_is : variables_of (clause_of book c) ≡ field book c 1
  vars_is = ap variables_of (clause_of_lem book F c X.clause k)

  ties_is : ties_of (clause_of book c) ≡ ties_from book (field book c 2) (field book c 3)
  ties_is = ap ties_of (clause_of_lem book F c X.clause k)

  args_is : head_arguments (clause_of book c) ≡ arguments_of book (head_of book c)
  args_is = ap head_arguments (clause_of_lem book F c X.clause k)

  made_is : length b.store ≡ made
  unfolding store_of
  made_is = rw be (length-map (take made ws) (entry_w book) ∙ length-take made ws ∙ omega (arith, X.slots.size, X.slots.room))

  -- the branch after entering, as it lies in the workspace before unifying
  abbrev pub branch_here : Branch
  branch_here = record
      { goals = with_body_of (body_of (clause_of book c)) made program b.goals; store = store_of book E.mid (made + field book c 1); taken = b.taken; supposed = b.supposed }

  entered_is : entered b (atom_here book a e program) (force_here book c o) ≡ branch_here
  entered_is = rw (ties_is, vars_is, made_is, be, ← E.store) refl

  pub enter_unit : advance (entering b (atom_here book a e program) (force_here book c o) cs)
      ≡ on (settle branch_here (argument_pairs book made a e c) ∷ try_all b (atom_here book a e program) cs)
  unfolding advance enter
  enter_unit = rw (enter, vars_is, made_is, le-leb (made + field book c 1) 2048 X.room) (rw (entered_is, made_is, args_is) refl)
