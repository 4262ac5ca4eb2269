-- The start: what its one thread asks of a filling is that the question follows, and it is good if the question is in scope.
use mathlib.Core.Path.{◌≡◌, refl, ap, sym, ◌∙◌, subst, fun_ext}
use mathlib.Core.Logic.{inr}
use mathlib.Core.List.{List, [], ◌∷◌}
use Prim.Native.Nat.{ℕ, ◌+◌}
use native.Mathlib.Omega.{arith}
use native.Mathlib.Nat.{zero-add}
use lib.ListN.{length-replicate}
use Rattle.book.specs.Tree.{Question}
use Rattle.book.specs.Scoped.{ScopedQuestion}
use Rattle.machine.specs.Term.{Term}
use Rattle.machine.specs.Store.{open_entry}
use Rattle.machine.specs.Machine.{added, todo}
use Rattle.machine.specs.Run.{start, solved}
use Rattle.derivation.specs.Derivation.{Rule, before, Derives}
use Rattle.derivation.specs.Given.{stores_given}
use Rattle.derivation.proofs.Lists.{done, first, alone, here, only_one}
use Rattle.derivation.proofs.Inside.{Agree}
use Rattle.derivation.proofs.Solution.{start_solution, start_falling, start_inside, start_sat}
use Rattle.derivation.proofs.Meaning.{ruled, Sol, ruled_added}
use Rattle.derivation.proofs.Invariance.{empty_alike, before_alike, derives_same}
use Rattle.derivation.proofs.Good.{Good}
use Rattle.derivation.proofs.GoodMoves.{added_good}
use Rattle.derivation.proofs.Buffer.{flatten}
use Rattle.derivation.proofs.Search.{Inv, Final, run_ok}

-- THE QUESTION, its unknowns filled with σ, follows from its own clauses

unfoldable pub Asked : Question → (ℕ → Term) → Type 0
Asked q σ = Derives (before q.clauses σ []) q.goal σ

pub asked_same : (q : Question) → ScopedQuestion q → (σ τ : ℕ → Term) → Agree q.unknowns σ τ → Asked q σ → Asked q τ
unfolding Asked
asked_same q s σ τ a d = derives_same d q.unknowns s.1 τ a (before q.clauses τ []) (before_alike q.unknowns q.clauses s.0 σ τ a empty_alike)

-- THE START asks the same

from_zero : (σ : ℕ → Term) → (λ o. σ (0 + o)) ≡ σ
from_zero σ = fun_ext (λ o. ap σ (zero-add o))

start_program : (q : Question) (σ : ℕ → Term) → ruled σ (added q.clauses 0 []) ≡ before q.clauses σ []
start_program q σ = ruled_added σ q.clauses 0 [] ∙ ap (λ (φ : ℕ → Term). before q.clauses φ []) (from_zero σ)

start_asks : (q : Question) (σ : ℕ → Term) → Sol σ (start q).thread → Asked q σ
unfolding start Asked
start_asks q σ s = subst (Derives (before q.clauses σ []) q.goal) (from_zero σ)
    (subst (λ (P : List Rule). Derives P q.goal (λ o. σ (0 + o))) (start_program q σ) (first s.1))

asks_start : (q : Question) (σ : ℕ → Term) → Asked q σ → Sol σ (start q).thread
unfolding start Asked
asks_start q σ d = (
  start_sat q.unknowns σ,
  alone (todo q.goal 0 (added q.clauses 0 []))
      (subst (λ (P : List Rule). Derives P q.goal (λ o. σ (0 + o))) (sym (start_program q σ))
      (subst (Derives (before q.clauses σ []) q.goal) (sym (from_zero σ)) d)),
)

pub start_good : (q : Question) → ScopedQuestion q → Good q.unknowns (start q).thread
unfolding start
start_good q s =
    let len = length-replicate q.unknowns open_entry in
    record {
      unknowns = omega arith;
      falling = start_falling q.unknowns;
      inside = start_inside q.unknowns _;
      solution = _;
      solves = start_solution q.unknowns;
      goals = alone (todo q.goal 0 (added q.clauses 0 [])) (record {
        size = q.unknowns;
        in_scope = s.1;
        fits = omega arith;
        program = added_good _ q.unknowns 0 (omega arith) q.clauses s.0 [] done;
      });
    }

-- THE WHOLE RUN of a question in scope

module _ (q : Question) (s : ScopedQuestion q) (wanted places budget : ℕ) where
  start_ok : Inv q.unknowns places (Asked q) (asked_same q s) ((start q).thread ∷ []) [] 0 []
  unfolding flatten
  start_ok = record {
    output = record { groups = []; stores = refl; counts = refl; whole = refl; numbered = tt; fits = omega arith; rights = done };
    good = alone (start q).thread (start_good q s);
    sound = λ σ x. start_asks q σ (only_one x);
    covered = λ σ z. inr (σ, λ v k. refl, here (asks_start q σ z));
  }

  pub solved_ok : Final q.unknowns places (Asked q) (asked_same q s) (solved q wanted places budget).ending
      (stores_given (record { unknowns = q.unknowns; wanted = wanted; places = places }) budget (start q))
      (solved q wanted places budget).tally.answers (solved q wanted places budget).lines
  unfolding solved start
  solved_ok = run_ok q.unknowns places (Asked q) (asked_same q s) (record { unknowns = q.unknowns; wanted = wanted; places = places }) refl refl budget (start q) [] start_ok
