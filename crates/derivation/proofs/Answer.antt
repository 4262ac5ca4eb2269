-- One answer: the values that the solution of its store gives the unknowns. Its instances are exactly the fillings that satisfy the store.
use mathlib.Core.Path.{◌≡◌, ap, sym, ◌∙◌, subst}
use mathlib.Core.List.{List, map, map-map}
use Prim.Native.Nat.{ℕ, suc, zero, ◌+◌, ◌<◌}
use native.Mathlib.Omega.{arith}
use native.Mathlib.Nat.{add-zero, zero-add}
use lib.ListN.{length-map}
use Rattle.book.specs.Records.{members}
use Rattle.machine.specs.Term.{Term, var, app, nil, sub}
use Rattle.machine.specs.Store.{Entry}
use Rattle.machine.specs.Answers.{unknown_terms}
use Rattle.machine.proofs.StoreLaws.{made_entry, length_members}
use Rattle.derivation.specs.Derivation.{filling_of}
use Rattle.derivation.specs.Given.{Value, AnswerOf}
use Rattle.derivation.proofs.Lists.{All, first, others}
use Rattle.derivation.proofs.Inside.{Agree}
use Rattle.derivation.proofs.Satisfying.{Sat, sat_after}
use Rattle.derivation.proofs.Solution.{Solution}

-- what holds of each of the unknowns on the list of the writer
all_member : {A : Type 0} (P : A → Type 0) (f : ℕ → A) (k n : ℕ) → All P (map f (members k n)) → (o : ℕ) → o < n → P (f (k + o))
unfolding members
all_member P f k zero h o l = absurd (omega arith)
all_member P f k (suc n) h zero l = rw (add-zero k) (first h)
all_member P f k (suc n) h (suc o) l =
    let e : k + suc o ≡ suc k + o = omega arith in
    subst (λ (x : ℕ). P (f x)) (sym e) (all_member P f (suc k) n (others h) o (omega arith))

module _ (u : ℕ) (s : List Entry) (θ : ℕ → Term) (h : Solution s θ) where
  -- the answer: each unknown's value
  abbrev pub solution_terms : List Term
  solution_terms = map (sub θ) (unknown_terms u)

  value_at : (v : ℕ) → v < u → filling_of solution_terms v ≡ θ v
  unfolding sub
  value_at v l = ap (λ (ts : List Term). filling_of ts v) (map-map (sub θ) var (members 0 u)) ∙ made_entry θ 0 u v (app 0 nil) l ∙ ap θ (zero-add v)

  pub solution_answer : All (λ (t : Term). Value s t (sub θ t)) (unknown_terms u) → AnswerOf s u solution_terms
  unfolding sub
  solution_answer a = record {
    each = length-map (unknown_terms u) (sub θ) ∙ length-map (members 0 u) var ∙ length_members 0 u;
    value = λ o l. subst (Value s (var o)) (sym (value_at o l))
        (subst (λ (x : ℕ). Value s (var x) (θ x)) (zero-add o) (all_member (λ (t : Term). Value s t (sub θ t)) var 0 u a o l));
  }

  -- the filling of an instance
  instance_at : (τ : ℕ → Term) → Agree u (λ v. sub τ (θ v)) (filling_of (map (sub τ) solution_terms))
  unfolding sub
  instance_at τ v l = sym (ap (λ (ts : List Term). filling_of (map (sub τ) ts) v) (map-map (sub θ) var (members 0 u))
      ∙ ap (λ (ts : List Term). filling_of ts v) (map-map (sub τ) θ (members 0 u))
      ∙ made_entry (λ x. sub τ (θ x)) 0 u v (app 0 nil) l ∙ ap (λ (x : ℕ). sub τ (θ x)) (zero-add v))

  -- each instance is, on the unknowns, a filling that satisfies the store
  pub instance_satisfies : (τ : ℕ → Term) → (σ : ℕ → Term) × Sat s σ × Agree u σ (filling_of (map (sub τ) solution_terms))
  instance_satisfies τ = ((λ v. sub τ (θ v)), sat_after s θ τ h.sat, instance_at τ)

  -- each filling that satisfies the store is, on the unknowns, an instance
  pub satisfying_instance : (τ : ℕ → Term) → Sat s τ → Agree u τ (filling_of (map (sub τ) solution_terms))
  satisfying_instance τ q v l = sym (h.most τ q v) ∙ instance_at τ v l
