-- The look: one unit.
use mathlib.Core.Path.{◌≡◌, refl, ◌∙◌, ap}
use mathlib.Core.List.{List}
use Prim.Native.Nat.{ℕ, ◌-◌, ◌≤◌, ◌<◌}
use native.Mathlib.Omega.{arith}
use borrow.Author.Tests.{eq-eqb, ne_eqb, le-leb, lt-leb}
use lib.ListN.{length}
use Rattle.book.specs.Records.{field}
use Rattle.book.specs.Decode.{arguments_of}
use Rattle.machine.specs.Term.{Term, Terms, var, app, spread, Pair}
use Rattle.machine.specs.Store.{walk}
use Rattle.machine.specs.Machine.{Branch, advance, look, look_on}
use Rattle.words.specs.Words.{term_of, store_of}
use Rattle.words.specs.Readable.{Readable}
use Rattle.words.proofs.TextLaws.{term_app}
use Rattle.looks.specs.declared.ToLook.{ToLook}
use Rattle.looks.specs.declared.LookStep.{LookStep}
use Rattle.looks.specs.declared.LookStep.TheVariants.{Found}
use Rattle.looks.specs.Runs.{run_terms, list_of, past_of, Leaves, Leaves.some_left, Leaves.none_left, LookedInto, LookedInto.into, LookedInto.into_full}
use Rattle.looks.specs.Values.{Opens, Reads}
use Rattle.looks.specs.Steps.{LookStepped, LookStepped.on_look, LookStepped.on_found, LookStepped.on_full}
use Rattle.looks.proofs.RunLaws.{list_first, list_length, run_length}

-- what is left is not too long
left_most : {book : List ℕ} {made : ℕ} {ws : List ℕ} {l : List Term} {o : LookStep} → Leaves book made ws l o → length l ≤ 256
left_most {book} {made} {ws} {l} (some_left {x = x} X q) = omega (arith, ap length q, list_length book ws x, X.total, X.most)
left_most (none_left q) = rw q (omega arith)

module _ (book : List ℕ) (R : Readable book) (made : ℕ) (ws : List ℕ) (v : ℕ) (s : ToLook) (h : 0 < s.count) (vv : 0 < v) where
  -- the first term
  abbrev first_term : Term
  first_term = term_of book (field book s.first 1) s.base

  -- the unit, up to what the term is
  look_unit : (u : Term) → walk (store_of book ws made) first_term ≡ u → (b : Branch) (f : ℕ) (ts : Terms) (ps : List Pair) → b.store ≡ store_of book ws made
      → advance (look_on b (v - 1) f ts (list_of book ws s) ps) ≡ look b (v - 1) f ts u (past_of book ws s) ps
  unfolding look_on advance
  look_unit u we b f ts ps e = rw (list_first book ws s h, e, we) refl

  -- a term, of record r at base c
  module _ (r c : ℕ) (T : Reads book made ws first_term r c) where
    look_app : (b : Branch) (f : ℕ) (ts : Terms) (ps : List Pair) → b.store ≡ store_of book ws made
        → advance (look_on b (v - 1) f ts (list_of book ws s) ps) ≡ look b (v - 1) f ts (app (field book r 1) (run_terms book c (field book r 3) (field book r 2))) (past_of book ws s) ps
    unfolding arguments_of run_terms
    look_app b f ts ps e = look_unit _ (T.walked ∙ term_app book R r c T.term.term) b f ts ps e

    pub step_into : (ws' : List ℕ) (o : LookStep) → LookedInto book made ws ws' s r c o → LookStepped book made ws ws' v s o
    unfolding look
    step_into ws' o (into X) =
        let l : length (spread (run_terms book c (field book r 3) (field book r 2)) (past_of book ws s)) ≤ 256 = left_most X in
        on_look X (λ b f ts ps e. look_app b f ts ps e ∙ rw (look, le-leb (length (spread (run_terms book c (field book r 3) (field book r 2)) (past_of book ws s))) 256 l) refl)
    step_into ws' o (into_full m) =
        let l : 256 < length (spread (run_terms book c (field book r 3) (field book r 2)) (past_of book ws s)) = omega (arith, run_length book c (field book r 3) (field book r 2) (past_of book ws s)) in
        on_full (λ b f ts ps e. look_app b f ts ps e ∙ rw (look, lt-leb (length (spread (run_terms book c (field book r 3) (field book r 2)) (past_of book ws s))) 256 l) refl)

  -- an open variable
  module _ (w : ℕ) (O : Opens book made ws first_term w) where
    pub step_found : w ≡ v → LookStepped book made ws ws v s Found
    unfolding look
    step_found q = on_found (λ b f ts ps e. look_unit (var (w - 1)) O.walked b f ts ps e ∙ rw (look, eq-eqb (v - 1) (w - 1) (omega arith)) refl)

    pub step_other : (w ≡ v → ⊥) → (o : LookStep) → Leaves book made ws (past_of book ws s) o → LookStepped book made ws ws v s o
    unfolding look
    step_other q o p =
        let z = O.good.some in
        on_look p (λ b f ts ps e. look_unit (var (w - 1)) O.walked b f ts ps e ∙ rw (look, ne_eqb (v - 1) (w - 1) (λ d. q (omega arith))) refl)
