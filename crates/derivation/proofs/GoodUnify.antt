-- Unifying and looking lead from a good thread to good ones: a variable is bound only to a term in whose value it does not occur.
use mathlib.Core.Path.{◌≡◌, refl, ap, sym, ◌∙◌}
use mathlib.Core.Logic.{inl, inr, ◌≢◌}
use mathlib.Core.List.{List, [], ◌∷◌}
use mathlib.Core.Bool.{Bool, true, false, ◌&&◌}
use Prim.Native.Nat.{ℕ, suc, ◌≤◌, ◌<◌}
use native.Mathlib.Omega.{arith}
use lib.Dec.{eqb, leb, ltb, ltb→lt, nltb→le}
use lib.ListN.{length}
use Rattle.book.proofs.Tests.{Tested, other, tested}
use Rattle.machine.specs.declared.Limit.TheVariants.{Lists}
use Rattle.machine.specs.Term.{Term, Terms, var, app, nil, cons, count, sub, subs, spread, Pair, pair_up}
use Rattle.machine.specs.Store.{same, bound, walk}
use Rattle.machine.specs.Machine.{Branch, looking, stop, settle, enter_at, order, pair, look_on, look, only, failed}
use Rattle.machine.proofs.TermLaws.{size, sizes, size_app, sizes_cons}
use Rattle.machine.proofs.StoreLaws.{walk_is_open}
use Rattle.derivation.proofs.Lists.{All, done, more, first, others, alone}
use Rattle.derivation.proofs.Inside.{Inside, Insides, InsidePair, pairs_inside, walk_inside}
use Rattle.derivation.proofs.Satisfying.{put, put_other, Sat, walk_sat}
use Rattle.derivation.proofs.Solution.{Absent, read_var, read_app}
use Rattle.derivation.proofs.Unify.{OpenVar, OpenIf}
use Rattle.derivation.proofs.Good.{GoodBranch, Part, GoodLook, Good, AllGood, settle_good, bind_good, pairs_kept}

-- ARGUMENTS ON THE LIST OF A LOOK

absent_args : (θ : ℕ → Term) (v : ℕ) (as' : Terms) (us : List Term) → All (λ (x : Term). Absent v (sub θ x)) (spread as' us)
    → ((s : Term) → subs (put v s) (subs θ as') ≡ subs θ as') × All (λ (x : Term). Absent v (sub θ x)) us
unfolding spread sub
absent_args θ v nil us a = (λ s. refl, a)
absent_args θ v (cons t ts) us a = let r = absent_args θ v ts us (others a) in (λ s. cc (first a s, r.0 s), r.1)

part_args : (σ : ℕ → Term) (t : Term) (as' : Terms) (us : List Term) → sizes (subs σ as') < size (sub σ t) → All (Part σ t) us → All (Part σ t) (spread as' us)
unfolding spread sub
part_args σ t nil us h a = a
part_args σ t (cons x xs) us h a =
    let e = sizes_cons (sub σ x) (subs σ xs) in
    let l : size (sub σ x) < size (sub σ t) = omega arith in
    more (inr l) (part_args σ t xs us (omega arith) a)

part_size : (σ : ℕ → Term) (t u : Term) (k : ℕ) (as' : Terms) → sub σ u ≡ sub σ (app k as') → Part σ t u → sizes (subs σ as') < size (sub σ t)
unfolding sub
part_size σ t u k as' e p = go p
  where
    is : size (sub σ u) ≡ suc (sizes (subs σ as'))
    is = ap size e ∙ size_app k (subs σ as')

    go : Part σ t u → sizes (subs σ as') < size (sub σ t)
    go (inl i) = let j = ap (λ (x : Term). size (sub σ x)) i in let y = is in omega arith
    go (inr l) = let y = is in omega arith

module _ (u : ℕ) (b : Branch) (h : GoodBranch u b) (ps : List Pair) (lps : All (InsidePair (length b.store)) ps) where
  -- TWO VARIABLES

  absent_var : (v w : ℕ) → w ≢ v → OpenVar b.store w → Absent v (sub h.solution (var w))
  unfolding sub
  absent_var v w n q s = rw (h.solves.leaves w q.free) (put_other v s w n)

  bind_var : (v w : ℕ) → w < v → OpenVar b.store v → OpenVar b.store w → Good u (settle (enter_at b v (same w)) ps)
  bind_var v w l p q = settle_good u (enter_at b v (same w)) ps
      (bind_good u b h v (var w) p (absent_var v w (omega arith) q) (λ x e. let i : w ≡ x = cc in omega arith) q.made)
      (pairs_kept b v (same w) ps lps)

  order_good : (v w : ℕ) → v ≢ w → OpenVar b.store v → OpenVar b.store w → Good u (settle (order b v w) ps)
  unfolding order
  order_good v w n p q = go (ltb v w) refl
    where
      go : (t : Bool) → ltb v w ≡ t → Good u (settle (elim t [ true ↦ enter_at b w (same v) | false ↦ enter_at b v (same w) ]) ps)
      go true e = bind_var w v (ltb→lt v w (rw e tt)) q p
      go false e = let k : w ≤ v = nltb→le v w (rw e tt) in bind_var v w (omega arith) p q

  -- PAIRS

  look_start : (v f : ℕ) (ts : Terms) → OpenVar b.store v → Insides (length b.store) ts → All (Good u) (looking b v f ts (app f ts) [] ps ∷ [])
  look_start v f ts p k = alone (looking b v f ts (app f ts) [] ps)
      (h, record { open_var = p; inside_term = k; rest = λ a. first a; parts = λ σ s. alone (app f ts) (inl refl) }, lps)

  pub pair_good : (x y : Term) → Inside (length b.store) x → Inside (length b.store) y → OpenIf b.store x → OpenIf b.store y → AllGood u (pair b x y ps)
  unfolding pair
  pair_good (var v) (var w) l k p q = go (eqb v w) (tested v w)
    where
      go : (t : Bool) → Tested v w t → AllGood u (elim t [ true ↦ only (settle b ps) | false ↦ only (settle (order b v w) ps) ])
      go true e = more (settle_good u b ps h lps) done
      go false (other n) = more (order_good v w n p q) done
  pair_good (var v) (app f ts) l k p q = look_start v f ts p k
  pair_good (app f ts) (var v) l k p q = look_start v f ts q l
  pair_good (app f ts) (app g us) l k p q = go (eqb f g && eqb (count ts) (count us)) (leb (length (pair_up ts us ps)) 256)
    where
      go : (x y : Bool) → AllGood u (elim x [ true ↦ elim y [ true ↦ only (settle b (pair_up ts us ps)) | false ↦ stop Lists ] | false ↦ failed ])
      go true true = more (settle_good u b (pair_up ts us ps) h (pairs_inside (length b.store) ts us ps l k lps)) done
      go true false = tt
      go false y = done

  -- LOOKING

  -- taking a variable off: it is another one
  past_var : (v f : ℕ) (ts : Terms) (x : Term) (us : List Term) (w : ℕ) → w ≢ v → walk b.store x ≡ var w
      → GoodLook b.store h.solution v f ts (x ∷ us) → GoodLook b.store h.solution v f ts us
  unfolding sub
  past_var v f ts x us w n e g = record
      { open_var = g.open_var; inside_term = g.inside_term; rest = λ a. g.rest (more absent a); parts = λ σ s. others (g.parts σ s) }
    where
      reads : sub h.solution x ≡ var w
      reads = read_var b.store h.solution h.falling h.solves x w e

      absent : Absent v (sub h.solution x)
      absent s = rw reads (put_other v s w n)

  -- taking a term off: its arguments go on
  past_term : (v f : ℕ) (ts : Terms) (x : Term) (us : List Term) (k : ℕ) (as' : Terms) → walk b.store x ≡ app k as'
      → GoodLook b.store h.solution v f ts (x ∷ us) → GoodLook b.store h.solution v f ts (spread as' us)
  unfolding sub
  past_term v f ts x us k as' e g = record {
    open_var = g.open_var;
    inside_term = g.inside_term;
    rest = λ a. let r = absent_args h.solution v as' us a in g.rest (more (absent r.0) r.1);
    parts = λ σ s. part_args σ (app f ts) as' us (smaller σ s) (others (g.parts σ s));
  }
    where
      reads : sub h.solution x ≡ app k (subs h.solution as')
      reads = read_app b.store h.solution h.solves x k as' e

      absent : ((s : Term) → subs (put v s) (subs h.solution as') ≡ subs h.solution as') → Absent v (sub h.solution x)
      absent a s = rw reads (ap (app k) (a s))

      smaller : (σ : ℕ → Term) → Sat b.store σ → sizes (subs σ as') < size (sub σ (app f ts))
      smaller σ s = part_size σ (app f ts) x k as' (sym (walk_sat b.store σ s x) ∙ ap (sub σ) e) (first (g.parts σ s))

  look_on_good : (v f : ℕ) (ts : Terms) (us : List Term) → GoodLook b.store h.solution v f ts us → Good u (look_on b v f ts us ps)
  unfolding look_on
  look_on_good v f ts [] g = settle_good u (enter_at b v (bound f ts)) ps
      (bind_good u b h v (app f ts) g.open_var (g.rest done) (λ w e. let z : ◌≡◌ {A = ℕ} 0 1 = cc in absurd (omega arith)) g.inside_term)
      (pairs_kept b v (bound f ts) ps lps)
  look_on_good v f ts (x ∷ us) g = (h, g, lps)

  pub look_good : (v f : ℕ) (ts : Terms) (x : Term) (us : List Term) → GoodLook b.store h.solution v f ts (x ∷ us) → AllGood u (look b v f ts (walk b.store x) us ps)
  unfolding look
  look_good v f ts x us g = go (walk b.store x) refl
    where
      var_go : (w : ℕ) → walk b.store x ≡ var w → (t : Bool) → Tested v w t → AllGood u (elim t [ true ↦ failed | false ↦ only (look_on b v f ts us ps) ])
      var_go w e true n = done
      var_go w e false (other n) = alone (look_on b v f ts us ps) (look_on_good v f ts us (past_var v f ts x us w (λ i. n (sym i)) e g))

      app_go : (k : ℕ) (as' : Terms) → walk b.store x ≡ app k as' → (t : Bool)
          → AllGood u (elim t [ true ↦ only (look_on b v f ts (spread as' us) ps) | false ↦ stop Lists ])
      app_go k as' e true = alone (look_on b v f ts (spread as' us) ps) (look_on_good v f ts (spread as' us) (past_term v f ts x us k as' e g))
      app_go k as' e false = tt

      go : (y : Term) → walk b.store x ≡ y → AllGood u (look b v f ts y us ps)
      go (var w) e = var_go w e (eqb v w) (tested v w)
      go (app k as') e = app_go k as' e (leb (length (spread as' us)) 256)

-- a side of a pair, read through
pub open_if : (u : ℕ) (b : Branch) → GoodBranch u b → (t : Term) → Inside (length b.store) t → OpenIf b.store (walk b.store t)
open_if u b h t i = go (walk b.store t) refl (walk_inside (length b.store) b.store h.inside t i)
  where
    go : (x : Term) → walk b.store t ≡ x → Inside (length b.store) x → OpenIf b.store x
    go (var v) e j = record { made = j; free = walk_is_open b.store h.falling t v e }
    go (app f ts) e j = tt
