-- The first number that a test says yes to.
use mathlib.Core.Path.{◌≡◌, refl, sym, ◌∙◌, ap}
use mathlib.Core.Bool.{Bool, true, false}
use Prim.Native.Nat.{ℕ, zero, suc, ◌+◌, ◌-◌, ◌≤◌, ◌<◌}
use native.Mathlib.Omega.{arith}
use native.Mathlib.Decide.{ℕ_discrete}
use Rattle.index.specs.Runs.{next_such}

pub clash : {A : Type 0} {x : Bool} → x ≡ true → x ≡ false → A
clash e d = let z : ◌≡◌ {A = Bool} true false = sym e ∙ d in let w : ◌≡◌ {A = ℕ} 0 1 = cc in absurd (omega arith)

-- THE FIRST THAT p SAYS YES TO
module _ (p : ℕ → Bool) where
  pub such_bounds : (k d : ℕ) → (k ≤ next_such p k d) × (next_such p k d ≤ k + d)
  unfolding next_such
  such_bounds k zero = (omega arith, omega arith)
  such_bounds k (suc d) = go (p k) (such_bounds (suc k) d)
    where
      go : (t : Bool) → (suc k ≤ next_such p (suc k) d) × (next_such p (suc k) d ≤ suc k + d)
          → (k ≤ elim t [ true ↦ k | false ↦ next_such p (suc k) d ]) × (elim t [ true ↦ k | false ↦ next_such p (suc k) d ] ≤ k + suc d)
      go true ih = (omega arith, omega arith)
      go false ih = (omega (arith, ih.0), omega (arith, ih.1))

  pub such_found : (k d : ℕ) → next_such p k d < k + d → p (next_such p k d) ≡ true
  unfolding next_such
  such_found k zero h = absurd (omega arith)
  such_found k (suc d) h = go (p k) refl (such_found (suc k) d) h
    where
      go : (t : Bool) → p k ≡ t → (next_such p (suc k) d < suc k + d → p (next_such p (suc k) d) ≡ true)
          → elim t [ true ↦ k | false ↦ next_such p (suc k) d ] < k + suc d → p (elim t [ true ↦ k | false ↦ next_such p (suc k) d ]) ≡ true
      go true e ih l = e
      go false e ih l = ih (omega arith)

  -- it is not after any other
  pub such_most : (k d z : ℕ) → k ≤ z → z < k + d → p z ≡ true → next_such p k d ≤ z
  unfolding next_such
  such_most k zero z a b e = absurd (omega arith)
  such_most k (suc d) z a b e = go (p k) refl (λ u. such_most (suc k) d z u (omega arith) e)
    where
      go : (t : Bool) → p k ≡ t → (suc k ≤ z → next_such p (suc k) d ≤ z) → elim t [ true ↦ k | false ↦ next_such p (suc k) d ] ≤ z
      go true x ih = a
      go false x ih = ih (later (ℕ_discrete k z))
        where
          later : Dec (k ≡ z) → suc k ≤ z
          later (yes y) = clash e (ap p (sym y) ∙ x)
          later (no y) = omega arith

  pub such_none : (k n : ℕ) → n ≤ k → next_such p k (n - k) ≡ k
  unfolding next_such
  such_none k n h = let z : n - k ≡ 0 = omega arith in rw z refl

  pub such_here : (k n : ℕ) → k < n → p k ≡ true → next_such p k (n - k) ≡ k
  unfolding next_such
  such_here k n h e = let z : n - k ≡ suc (n - (k + 1)) = omega arith in rw (z, next_such, e) refl

  pub such_on : (k n : ℕ) → k < n → p k ≡ false → next_such p k (n - k) ≡ next_such p (k + 1) (n - (k + 1))
  unfolding next_such
  such_on k n h e =
      let z : n - k ≡ suc (n - (k + 1)) = omega arith in
      let w : suc k ≡ k + 1 = omega arith in
      rw (z, next_such, e, w) refl

-- where q says yes only if p does, q says yes to none before the first that p says yes to
module _ (p q : ℕ → Bool) (w : (k : ℕ) → q k ≡ true → p k ≡ true) where
  such_skips : (k d : ℕ) → next_such q k d ≡ next_such q (next_such p k d) (k + d - next_such p k d)
  unfolding next_such
  such_skips k zero = let z : k + 0 - k ≡ 0 = omega arith in rw z refl
  such_skips k (suc d) = go (p k) refl (such_skips (suc k) d)
    where
      N : ℕ
      N = next_such p (suc k) d

      not : (t : Bool) → q k ≡ t → p k ≡ false → q k ≡ false
      not true e x = clash (w k e) x
      not false e x = e

      go : (t : Bool) → p k ≡ t → next_such q (suc k) d ≡ next_such q N (suc k + d - N)
          → next_such q k (suc d) ≡ next_such q (elim t [ true ↦ k | false ↦ N ]) (k + suc d - elim t [ true ↦ k | false ↦ N ])
      go true e ih = let z : k + suc d - k ≡ suc d = omega arith in rw z refl
      go false e ih =
          let z : k + suc d ≡ suc k + d = omega arith in
          rw (next_such, not (q k) refl e) (ih ∙ ap (λ (n : ℕ). next_such q N (n - N)) (sym z))

  pub such_same : (k n : ℕ) → k ≤ n → next_such q (next_such p k (n - k)) (n - next_such p k (n - k)) ≡ next_such q k (n - k)
  such_same k n h = sym (such_skips k (n - k) ∙ (let z : k + (n - k) ≡ n = omega arith in rw z refl))
