-- A term has at most one value in a store, so that an answer is determined by its branch's store.
use mathlib.Core.Path.{◌≡◌, refl, sym, ◌∙◌, subst}
use mathlib.Core.List.{List}
use Prim.Native.Nat.{ℕ}
use native.Mathlib.Omega.{arith}
use lib.Seq.{ext_get_or}
use Rattle.machine.specs.Term.{Term, Terms, app, nil, cons, sub, subs, spread}
use Rattle.machine.specs.Store.{Entry}
use Rattle.derivation.specs.Given.{Value, Values, open_value, term_value, no_values, more_values, AnswerOf}
use Rattle.derivation.proofs.Lists.{All, first, others}

mutual
  pub value_once : {s : List Entry} {t u w : Term} → Value s t u → Value s t w → u ≡ w
  value_once (open_value e) (open_value i) = sym e ∙ i
  value_once (open_value e) (term_value i l) = let z : ◌≡◌ {A = ℕ} 0 1 = cc in absurd (omega arith)
  value_once (term_value e k) (open_value i) = let z : ◌≡◌ {A = ℕ} 0 1 = cc in absurd (omega arith)
  value_once {s} (term_value {f} {ts} {us} e k) (term_value {f = g} {ts = xs} {us = ys} i l) =
      let x : xs ≡ ts = cc in
      let h : f ≡ g = cc in
      let r : us ≡ ys = values_once k (subst (λ (y : Terms). Values s y ys) x l) in
      cc

  pub values_once : {s : List Entry} {ts us ws : Terms} → Values s ts us → Values s ts ws → us ≡ ws
  values_once no_values no_values = refl
  values_once (more_values k l) (more_values m n) = cc (value_once k m, values_once l n)

pub answer_once : (s : List Entry) (n : ℕ) (ts us : List Term) → AnswerOf s n ts → AnswerOf s n us → ts ≡ us
answer_once s n ts us x y = ext_get_or (app 0 nil) ts us (x.each ∙ sym y.each) (λ o l. value_once (x.value o (rw x.each at l)) (y.value o (rw x.each at l)))

-- the values of arguments put on a list
pub spread_values : (s : List Entry) (θ : ℕ → Term) (as' : Terms) (ts : List Term) → All (λ (t : Term). Value s t (sub θ t)) (spread as' ts)
    → Values s as' (subs θ as') × All (λ (t : Term). Value s t (sub θ t)) ts
unfolding spread sub
spread_values s θ nil ts a = (no_values, a)
spread_values s θ (cons t as') ts a = let r = spread_values s θ as' ts (others a) in (more_values (first a) r.0, r.1)
