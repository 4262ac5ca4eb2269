-- Worked examples of derivations: a supposition ends with its goal (C6), a tied variable is one thing (C7), and no finite term is its own part (C9).
use mathlib.Core.Path.{◌≡◌, refl, ap, sym, ◌∙◌}
use mathlib.Core.List.Memᴰ
use mathlib.Core.List.{List, []}
use Prim.Native.Nat.{ℕ}
use native.Mathlib.Omega.{arith}
use Rattle.book.specs.Records.{members}
use Rattle.book.specs.Tree.{count_texts, tie_of, no_clause}
use Rattle.machine.specs.Term.{Term, Terms, var, app, nil, cons, count, fill, pair_up}
use Rattle.machine.specs.Store.{entry_at, follow, walk, entry_for, new_entries}
use Rattle.machine.specs.Machine.{looking, answered, settle, candidates, added, try_all, taking, solve, with_body_of, enter, order, pair, look_on, advance}
use Rattle.machine.specs.Run.{start}
use Rattle.machine.proofs.TermLaws.{size, size_app, sizes_cons}
use Rattle.derivation.specs.Derivation.{stands_for, before, filling_of, Follows, clause_used, supposing, nothing_to_derive}
use Rattle.derivation.specs.Given.{Value, Values, open_value, term_value, no_values, more_values}
use Rattle.derivation.specs.Examples.{a, b, f, supposed, c6, c7, c9, thread_after, looked, just_x, unlooked}
use Rattle.derivation.proofs.Lists.{none_of, only_one}
use Rattle.derivation.proofs.Meaning.{inverted}

-- C6: a supposition does not reach the next part of a conjunction

-- `p => p` follows from no rules ..
pub supposed_follows : Follows (record { clauses = no_clause; goal = supposed; unknowns = 0 }) []
unfolding Follows before fill
supposed_follows = supposing (clause_used _ (λ o. var o) (Memᴰ.head refl) refl nothing_to_derive)

-- .. but `(p => p), p` does not
pub c6_underivable : (ts : List Term) → Follows c6 ts → ⊥
unfolding Follows before
c6_underivable ts d = none_of (inverted (inverted d).1)

-- C7: the tied X cannot be both a and b

pub c7_underivable : (ts : List Term) → Follows c7 ts → ⊥
unfolding Follows before fill stands_for tie_of
c7_underivable ts d =
    let both = inverted (inverted d) in
    let l = (only_one (inverted both.0)).head in
    let r = (only_one (inverted both.1)).head in
    let x : app a nil ≡ filling_of ts 0 = cc l in
    let y : app b nil ≡ filling_of ts 0 = cc r in
    let z : ◌≡◌ {A = ℕ} 0 1 = cc (x, y) in omega arith

-- C9: whatever X is, `s(X,f(X))` does not follow from `s(Y,Y)`, so that any answer to it would be wrong

not_inside : (t : Term) → t ≡ app f (cons t nil) → ⊥
not_inside t e =
    let i = ap size e in
    let j = size_app f (cons t nil) in
    let k = sizes_cons t nil in omega arith

pub c9_underivable : (ts : List Term) → Follows c9 ts → ⊥
unfolding Follows before fill stands_for tie_of
c9_underivable ts d =
    let e = (only_one (inverted d)).head in
    not_inside (filling_of ts 0) (cc e)

-- THE LOOK: the fifth unit of C9 looks for X in f(X) ..
pub c9_looks : thread_after 4 (start c9).thread ≡ looking looked 0 f just_x (app f just_x) [] []
unfolding thread_after start added advance solve taking candidates try_all enter with_body_of new_entries members entry_for tie_of count_texts pair_up fill settle pair walk follow entry_at order count
c9_looks = refl

-- .. left out, X would be bound and an answer given ..
pub unlooked_answers : advance (look_on looked 0 f just_x [] []) ≡ answered unlooked
unfolding advance look_on settle solve
unlooked_answers = refl

-- .. in which the value of X is no finite term
mutual
  unfolding walk follow entry_at

  endless : {t u : Term} → Value unlooked.store t u → t ≡ var 0 → ⊥
  endless (open_value {v} e) i =
      let j : walk unlooked.store (var 0) ≡ var v = ap (walk unlooked.store) (sym i) ∙ e in
      let z : ◌≡◌ {A = ℕ} 0 1 = cc j in omega arith
  endless (term_value {f = g} {ts} e l) i =
      let j : walk unlooked.store (var 0) ≡ app g ts = ap (walk unlooked.store) (sym i) ∙ e in
      all_endless l (cc j)

  all_endless : {ts us : Terms} → Values unlooked.store ts us → ts ≡ just_x → ⊥
  all_endless no_values i = let z : ◌≡◌ {A = ℕ} 0 1 = cc i in omega arith
  all_endless (more_values k l) i = endless k (cc i)

pub unlooked_has_no_value : (u : Term) → Value unlooked.store (var 0) u → ⊥
unlooked_has_no_value u h = endless h refl
