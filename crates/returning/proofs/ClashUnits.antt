-- A candidate whose first argument clashes at once: the machine enters it and fails at the first pair, two units, and nothing is changed.
use mathlib.Core.Path.{◌≡◌, refl, ◌∙◌, ap}
use mathlib.Core.Bool.{false, ◌&&◌}
use mathlib.Core.List.{List, [], ◌∷◌, ◌++◌}
use Prim.Native.Nat.{ℕ, zero, suc, ◌+◌, ◌≤◌, ◌<◌}
use native.Mathlib.Omega.{arith}
use lib.Dec.{eqb}
use lib.ListN.{length}
use borrow.Author.Tests.{le-leb}
use Rattle.book.specs.Tree.{head_arguments, variables_of}
use Rattle.machine.specs.declared.Tally.{Tally}
use Rattle.machine.specs.Term.{Term, Terms, var, app, cons, count, instances, Pair, pair_up}
use Rattle.machine.specs.Store.{Entry, open_entry, same, bound, entry_at, follow, walk}
use Rattle.machine.specs.Machine.{Force, Atom, Branch, Thread, entering, unifying, on, failed, settle, try_all, entered, head_pairs, enter, pair, advance}
use Rattle.machine.specs.Answers.{Line}
use Rattle.machine.specs.Run.{Request, counted}
use Rattle.machine.proofs.StoreLaws.{entry_before}
use Rattle.words.specs.Good.{Below}
use Rattle.words.proofs.WalkLaws.{Falls}
use Rattle.steps.specs.Search.{run_on, spent_units}
use Rattle.steps.proofs.RunLaws.{unit_on}

-- reading through a store is not changed by entries behind it
follow_grown : (s new : List Entry) → Falls s → (n v : ℕ) → v < length s → follow n (s ++ new) v ≡ follow n s v
unfolding follow Falls
follow_grown s new F zero v h = refl
follow_grown s new F (suc n) v h = go (entry_at s v) refl (λ u l. follow_grown s new F n u l)
  where
    go : (e : Entry) → entry_at s v ≡ e → ((u : ℕ) → u < length s → follow n (s ++ new) u ≡ follow n s u) → follow (suc n) (s ++ new) v ≡ follow (suc n) s v
    go open_entry e ih = rw (follow, entry_before s new v h, e) refl
    go (same u) e ih = let l = F v u e in rw (follow, entry_before s new v h, e) (ih u (omega arith))
    go (bound f ts) e ih = rw (follow, entry_before s new v h, e) refl

pub walk_grown : (s new : List Entry) → Falls s → (t : Term) → Below (length s) t → walk (s ++ new) t ≡ walk s t
unfolding walk
walk_grown s new F (var v) h = follow_grown s new F (suc v) v h
walk_grown s new F (app f ts) h = refl

-- two terms with different symbols or argument counts
clash_fails : (b : Branch) (p : Pair) (ps : List Pair) (f g : ℕ) (ts us : Terms) → walk b.store p.left ≡ app f ts → walk b.store p.right ≡ app g us
    → (eqb f g && eqb (count ts) (count us)) ≡ false → advance (unifying b p ps) ≡ failed
unfolding advance pair
clash_fails b p ps f g ts us x y c = rw (x, y, pair, c) refl

module _ (b : Branch) (a : Atom) (c : Force) (cs : List Force) (t u : Term) (tr ur : Terms) (f g : ℕ) (ts us : Terms)
    (room : length b.store + variables_of c.text ≤ 2048) (args : instances a.base a.arguments ≡ cons t tr)
    (head : instances (length b.store) (head_arguments c.text) ≡ cons u ur)
    (left : walk (entered b a c).store t ≡ app f ts) (right : walk (entered b a c).store u ≡ app g us) (clash : (eqb f g && eqb (count ts) (count us)) ≡ false) where
  abbrev first : Pair
  first = record { left = t; right = u }

  pairs_are : head_pairs (length b.store) a c ≡ first ∷ pair_up tr ur []
  unfolding pair_up
  pairs_are = rw (args, head) refl

  entry_gives : advance (entering b a c cs) ≡ on (unifying (entered b a c) first (pair_up tr ur []) ∷ try_all b a cs)
  unfolding advance enter settle
  entry_gives = rw (enter, le-leb (length b.store + variables_of c.text) 2048 room) (ap (λ (ps : List Pair). on (settle (entered b a c) ps ∷ try_all b a cs)) pairs_are)

  pub clash_units : (q : Request) (n : ℕ) (y : Tally) (ls : List Line) (rest : List Thread)
      → run_on q (suc (suc n)) y ls (entering b a c cs ∷ rest) ≡ run_on q n (spent_units 2 y) ls (try_all b a cs ++ rest)
  unfolding counted spent_units
  clash_units q n y ls rest =
      let z : suc (suc y.units) ≡ y.units + 2 = omega arith in
      unit_on q (suc n) (entering b a c cs) (unifying (entered b a c) first (pair_up tr ur []) ∷ try_all b a cs) rest y ls entry_gives
      ∙ unit_on q n (unifying (entered b a c) first (pair_up tr ur [])) [] (try_all b a cs ++ rest) (counted y) ls (clash_fails (entered b a c) first (pair_up tr ur []) f g ts us left right clash)
      ∙ rw z refl
