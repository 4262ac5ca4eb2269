-- A filling changed above the variables made: what a branch asks of it stays. So the variables that an entry makes may get any terms.
use mathlib.Core.Path.{◌≡◌, refl, ap, sym, ◌∙◌, subst}
use mathlib.Core.List.{List, [], ◌∷◌}
use mathlib.Core.Bool.{Bool, true, false}
use Prim.Native.Nat.{ℕ, ◌+◌, ◌-◌, ◌<◌}
use native.Mathlib.Omega.{arith}
use lib.Dec.{T, ltb, lt→ltb, ltb→lt}
use lib.ListN.{length}
use Rattle.machine.specs.Term.{Term, app, sub}
use Rattle.machine.specs.Store.{Entry, open_entry, same, bound, entry_at}
use Rattle.machine.specs.Machine.{Force, Todo, Branch}
use Rattle.machine.proofs.StoreLaws.{entry_past}
use Rattle.derivation.proofs.Lists.{All, first, others, both_all}
use Rattle.derivation.proofs.Inside.{Agree, InsideEntry, insides_same}
use Rattle.derivation.proofs.Satisfying.{Holds, Sat, Placed, below, above, placed}
use Rattle.derivation.proofs.Meaning.{ruled, Derived, Base}
use Rattle.derivation.proofs.Invariance.{Alike, empty_alike, rule_alike, derives_same}
use Rattle.derivation.proofs.Good.{GoodForce, GoodTodo, GoodBranch}

-- WHAT A BRANCH ASKS

pub programs_alike : (n : ℕ) (σ τ : ℕ → Term) → Agree n σ τ → (P : List Force) → All (GoodForce n) P → Alike (ruled σ P) (ruled τ P)
programs_alike n σ τ a [] h = empty_alike
programs_alike n σ τ a (c ∷ P) h =
    let g = first h in let f = g.fits in
    rule_alike g.size g.in_scope (λ o l. a (c.outer + o) (omega arith)) (programs_alike n σ τ a P (others h))

derived_same : (n : ℕ) (σ τ : ℕ → Term) → Agree n σ τ → (g : Todo) → GoodTodo n g → Derived σ g → Derived τ g
derived_same n σ τ a g k d =
    let f = k.fits in
    derives_same d k.size k.in_scope (λ o. τ (g.base + o)) (λ o l. a (g.base + o) (omega arith)) (ruled τ g.program) (programs_alike n σ τ a g.program k.program)

sat_same : (s : List Entry) (σ τ : ℕ → Term) → Agree (length s) σ τ → ((v : ℕ) → InsideEntry (length s) (entry_at s v)) → Sat s σ → Sat s τ
unfolding sub
sat_same s σ τ a i h v = go (placed (length s) v)
  where
    old : v < length s → (e : Entry) → InsideEntry (length s) e → Holds σ v e → Holds τ v e
    old l open_entry j q = tt
    old l (same u) j q = sym (a v l) ∙ q ∙ a u j
    old l (bound f ts) j q = sym (a v l) ∙ q ∙ ap (app f) (insides_same (length s) σ τ a ts j)

    go : Placed (length s) v → Holds τ v (entry_at s v)
    go (below l) = old l (entry_at s v) (i v) (h v)
    go (above o e) = rw (entry_past s v (omega arith)) tt

pub base_same : (u : ℕ) (σ τ : ℕ → Term) (b : Branch) → Agree (length b.store) σ τ → GoodBranch u b → Base σ b → Base τ b
base_same u σ τ b a h s = (
  sat_same b.store σ τ a h.inside s.0,
  both_all b.goals (λ g k d. derived_same (length b.store) σ τ a g k d) h.goals s.1,
)

-- NEW VARIABLES: σ below n, and `own` from n on

unfoldable pub extend : ℕ → (ℕ → Term) → (ℕ → Term) → ℕ → Term
extend n σ own v = elim (ltb v n) [ true ↦ σ v | false ↦ own (v - n) ]

pub extend_below : (n : ℕ) (σ own : ℕ → Term) → Agree n σ (extend n σ own)
unfolding extend
extend_below n σ own v h = go (ltb v n) refl
  where
    go : (t : Bool) → ltb v n ≡ t → σ v ≡ elim t [ true ↦ σ v | false ↦ own (v - n) ]
    go true e = refl
    go false e = absurd (subst T e (lt→ltb v n h))

pub extend_above : (n : ℕ) (σ own : ℕ → Term) (o : ℕ) → extend n σ own (n + o) ≡ own o
unfolding extend
extend_above n σ own o = go (ltb (n + o) n) refl
  where
    minus : n + o - n ≡ o
    minus = omega arith

    go : (t : Bool) → ltb (n + o) n ≡ t → elim t [ true ↦ σ (n + o) | false ↦ own (n + o - n) ] ≡ own o
    go true e = let k : n + o < n = ltb→lt (n + o) n (rw e tt) in absurd (omega arith)
    go false e = ap own minus
