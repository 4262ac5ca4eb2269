-- Answers that are the same up to the numbers of their open variables have the same instances, and the renumbering is one-to-one.
use mathlib.Core.Path.{◌≡◌, refl, ap, sym, ◌∙◌}
use mathlib.Core.List.{List, [], ◌∷◌, map}
use Prim.Native.Nat.{ℕ}
use lib.ListN.{length, length-map}
use Rattle.machine.specs.Term.{Term, Terms, var, app, cons, nil, sub, subs}
use Rattle.machine.proofs.TermLaws.{sub_sub}
use Rattle.derivation.specs.Demand3.{InstanceOf, renumber, Renumbered}
use Rattle.derivation.proofs.Lists.{Some, cases, none_of}

-- INSTANCES

-- an instance of the renumbered terms is one of the terms
renumber_instance : (ρ : ℕ → ℕ) (τ : ℕ → Term) (ts : List Term) → map (sub τ) (renumber ρ ts) ≡ map (sub (λ v. τ (ρ v))) ts
unfolding sub
renumber_instance ρ τ [] = refl
renumber_instance ρ τ (t ∷ ts) = cc (sub_sub (λ v. var (ρ v)) τ t, renumber_instance ρ τ ts)

pub renumbered_length : (ts us : List Term) → Renumbered ts us → length us ≡ length ts
renumbered_length ts us r = ap length (sym r.there) ∙ length-map ts (sub (λ v. var (r.to v)))

pub instance_back : (ts us : List Term) (r : Renumbered ts us) (τ : ℕ → Term) → map (sub (λ v. τ (r.to v))) ts ≡ map (sub τ) us
instance_back ts us r τ = sym (renumber_instance r.to τ ts) ∙ ap (map (sub τ)) r.there

pub instance_there : (ts us xs : List Term) → Renumbered ts us → InstanceOf ts xs → InstanceOf us xs
instance_there ts us xs r i = ((λ v. i.0 (r.from v)), sym (renumber_instance r.from i.0 us) ∙ ap (map (sub i.0)) r.back ∙ i.1)

-- ONE-TO-ONE on the open variables

-- the variable v is open in a term, in one of the arguments
mutual
  pub data OpenIn (v : ℕ) : Term → Type 0 where
    itself : OpenIn v (var v)
    within : {f : ℕ} {ts : Terms} → OpenAmong v ts → OpenIn v (app f ts)

  pub data OpenAmong (v : ℕ) : Terms → Type 0 where
    in_first : {t : Term} {ts : Terms} → OpenIn v t → OpenAmong v (cons t ts)
    in_others : {t : Term} {ts : Terms} → OpenAmong v ts → OpenAmong v (cons t ts)

-- a filling that leaves a term as it is leaves its open variables
mutual
  unfolding sub

  open_left : (σ : ℕ → Term) (v : ℕ) (t : Term) → OpenIn v t → sub σ t ≡ t → σ v ≡ var v
  open_left σ v (var w) itself e = e
  open_left σ v (app f ts) (within o) e = opens_left σ v ts o (cc e)

  opens_left : (σ : ℕ → Term) (v : ℕ) (ts : Terms) → OpenAmong v ts → subs σ ts ≡ ts → σ v ≡ var v
  opens_left σ v nil o e = elim o [ ]
  opens_left σ v (cons t ts) (in_first o) e = open_left σ v t o (cc e)
  opens_left σ v (cons t ts) (in_others o) e = opens_left σ v ts o (cc e)

some_left : (σ : ℕ → Term) (v : ℕ) (ts : List Term) → Some (OpenIn v) ts → map (sub σ) ts ≡ ts → σ v ≡ var v
some_left σ v [] s e = absurd (none_of s)
some_left σ v (t ∷ ts) s e = cases (λ o. open_left σ v t o (cc e)) (λ r. some_left σ v ts r (cc e)) s

-- what is renumbered and numbered back is the variable
number_back : (ts us : List Term) (r : Renumbered ts us) (v : ℕ) → Some (OpenIn v) ts → r.from (r.to v) ≡ v
number_back ts us r v o =
    let e : var (r.from (r.to v)) ≡ var v
    = some_left (λ x. var (r.from (r.to x))) v ts o (instance_back ts us r (λ x. var (r.from x)) ∙ r.back) in
    cc e

pub renumbered_one_to_one : (ts us : List Term) (r : Renumbered ts us) (v w : ℕ) → Some (OpenIn v) ts → Some (OpenIn w) ts → r.to v ≡ r.to w → v ≡ w
renumbered_one_to_one ts us r v w o p e = sym (number_back ts us r v o) ∙ ap r.from e ∙ number_back ts us r w p
