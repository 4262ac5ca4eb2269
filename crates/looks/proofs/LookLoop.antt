-- The loop of the look.
use mathlib.Core.Path.{◌≡◌, refl, sym, ◌∙◌}
use mathlib.Core.List.{List, []}
use Prim.Native.Nat.{ℕ, ◌+◌, ◌-◌, ◌≤◌, ◌<◌}
use native.Mathlib.Omega.{arith}
use lib.ListN.{length}
use Rattle.machine.specs.declared.Limit.TheVariants.{Budget, Lists}
use Rattle.machine.specs.Term.{Pair}
use Rattle.machine.specs.Machine.{looking, Branch, advance, look, look_on, settle, enter_at}
use Rattle.machine.specs.Term.{spread}
use Rattle.machine.specs.Store.{bound, walk}
use borrow.Author.Tests.{le-leb}
use Rattle.book.specs.Records.{field}
use Rattle.book.specs.Decode.{arguments_of}
use Rattle.words.specs.Words.{rec_of, base_of, term_w, sym_w, args_w, store_of}
use Rattle.words.specs.Readable.{Readable}
use Rattle.words.specs.Good.{GoodTerm, Slots}
use Rattle.words.specs.Frame.{Keeps}
use Rattle.words.proofs.SlotLaws.{word_app}
use Rattle.words.proofs.StackLaws.{keeps_refl, keeps_trans, store_same, slots_same, spread_length, args_count}
use Rattle.looks.specs.declared.ToLook.{ToLook}
use Rattle.looks.specs.Runs.{run_terms, waiting_of, list_of, Listed, Leaves.some_left, Leaves.none_left}
use Rattle.looks.proofs.RunLaws.{term_run, run_none}
use Rattle.looks.proofs.ValueLaws.{word_term}
use Rattle.looks.specs.declared.How.TheVariants.{Done, Failed, Stopped}
use Rattle.looks.specs.declared.LookStep.{LookStep}
use Rattle.looks.specs.declared.LookStep.TheVariants.{On, Over, Found, Full}
use Rattle.looks.specs.Moves.{Moves, Moves.still, Moves.more, Went.done, Went.fails, Went.full, Went.spent}
use Rattle.looks.specs.Steps.{LookStepped, LookStepped.on_look, LookStepped.on_found, LookStepped.on_full, LookWent}

-- where the loop stands: `used` units lead to the look with the list s left
pub record LookInv (book : List ℕ) (made : ℕ) (ws₀ : List ℕ) (v t left : ℕ) (ws : List ℕ) (s : ToLook) (used : ℕ) : Type 0 where
  pub enough : used ≤ left
  pub keeps : Keeps 0 16128 ws₀ ws
  pub listed : Listed book made ws s
  pub moves : (b : Branch) (ps : List Pair) → b.store ≡ store_of book ws₀ made
      → Moves (looking b (v - 1) (sym_w book t) (args_w book t) (term_w book t) [] ps) used (look_on b (v - 1) (sym_w book t) (args_w book t) (list_of book ws s) ps)

absurd_step {ℓ} : {X : Type ℓ} → ◌≡◌ {A = ℕ} 0 1 → X
absurd_step z = absurd (omega arith)

module _ (book : List ℕ) (made : ℕ) (ws₀ : List ℕ) (S : Slots book made ws₀) (v t left : ℕ) where
  -- the first unit: the term itself
  module _ (R : Readable book) (g : GoodTerm book made t) (l : left ≡ 0 → ⊥) (m : ℕ) (me : m ≡ field book (rec_of t) 2) where
    look_first : (b : Branch) (ps : List Pair)
        → Moves (looking b (v - 1) (sym_w book t) (args_w book t) (term_w book t) [] ps) 1
        (look_on b (v - 1) (sym_w book t) (args_w book t) (spread (run_terms book (base_of t) (field book (rec_of t) 3) (field book (rec_of t) 2)) []) ps)
    unfolding advance look args_w arguments_of run_terms walk
    look_first b ps =
        let G = term_run book R made (rec_of t) (base_of t) (word_term book made t g) in
        let q : length (spread (args_w book t) []) ≤ 256 = omega (arith, spread_length (args_w book t) [], args_count book t, G.most) in
        more {n = 0} {k = 1} {w = look_on b (v - 1) (sym_w book t) (args_w book t) (spread (args_w book t) []) ps} (still refl) (rw (word_app book R made t g, look, le-leb (length (spread (args_w book t) [])) 256 q) refl) refl

    pub look_bare : m ≡ 0 → LookWent book made ws₀ v t left Done 1
    unfolding look_on
    look_bare z b ps q =
        done (rw (run_none book (base_of t) (field book (rec_of t) 3) (field book (rec_of t) 2) [] (sym me ∙ z), look_on) at (look_first b ps)) (omega arith)

    pub inv_start : (f : ℕ) → f ≡ field book (rec_of t) 3 → (m ≡ 0 → ⊥) → (u : ℕ) → u ≡ 1
        → LookInv book made ws₀ v t left ws₀ (record { first = f; count = m; base = base_of t; depth = 0; waiting = 0 }) u
    unfolding waiting_of list_of
    inv_start f fe z u e =
        let G = term_run book R made (rec_of t) (base_of t) (word_term book made t g) in
        rw (me, fe, e) (record {
          enough = omega arith;
          keeps = keeps_refl 0 16128 ws₀;
          listed = record { hand = G; waits = λ k i. absurd (omega arith); total = refl; most = omega (arith, G.most); some = omega arith };
          moves = λ b ps q. look_first b ps;
        })

  module _ (ws : List ℕ) (s : ToLook) (used : ℕ) (i : LookInv book made ws₀ v t left ws s used) where
    pub inv_slots : Slots book made ws
    inv_slots = slots_same book made 16128 (omega (arith, S.room)) i.keeps S

    store_here : (b : Branch) → b.store ≡ store_of book ws₀ made → b.store ≡ store_of book ws made
    store_here b q = q ∙ sym (store_same book made 16128 (omega (arith, S.room)) i.keeps)

    pub inv_more : (ws' : List ℕ) (o : LookStep) (k : ToLook) (u : ℕ) → used < left → u ≡ used + 1 → Keeps 0 16128 ws ws' → LookStepped book made ws ws' v s o → o ≡ On k
        → LookInv book made ws₀ v t left ws' k u
    inv_more ws' o k u l ue f (on_look (some_left {x = j} g y) a) e =
        let z : j ≡ k = cc in
        rw (← z) (record {
          enough = omega arith;
          keeps = keeps_trans i.keeps f;
          listed = g;
          moves = λ b ps q. more {k = u} {w = look_on b (v - 1) (sym_w book t) (args_w book t) (list_of book ws' j) ps} (i.moves b ps q) (a b (sym_w book t) (args_w book t) ps (store_here b q) ∙ rw y refl) (omega arith);
        })
    inv_more ws' o k u l ue f (on_look (none_left y) a) e = absurd_step (cc)
    inv_more ws' o k u l ue f (on_found a) e = absurd_step (cc)
    inv_more ws' o k u l ue f (on_full a) e = absurd_step (cc)

    pub inv_found : (ws' : List ℕ) (o : LookStep) → used < left → LookStepped book made ws ws' v s o → o ≡ Found → LookWent book made ws₀ v t left Failed (used + 1)
    inv_found ws' o l (on_found a) e b ps q = fails {k = used + 1} (i.moves b ps q) (a b (sym_w book t) (args_w book t) ps (store_here b q)) (omega arith) (omega arith)
    inv_found ws' o l (on_look (some_left g y) a) e b ps q = absurd_step (cc)
    inv_found ws' o l (on_look (none_left y) a) e b ps q = absurd_step (cc)
    inv_found ws' o l (on_full a) e b ps q = absurd_step (cc)

    pub inv_full : (ws' : List ℕ) (o : LookStep) → used < left → LookStepped book made ws ws' v s o → o ≡ Full → LookWent book made ws₀ v t left (Stopped Lists) used
    inv_full ws' o l (on_full a) e b ps q = full (i.moves b ps q) (a b (sym_w book t) (args_w book t) ps (store_here b q)) l
    inv_full ws' o l (on_look (some_left g y) a) e b ps q = absurd_step (cc)
    inv_full ws' o l (on_look (none_left y) a) e b ps q = absurd_step (cc)
    inv_full ws' o l (on_found a) e b ps q = absurd_step (cc)

    pub inv_spent : used ≡ left → LookWent book made ws₀ v t left (Stopped Budget) left
    inv_spent l b ps q = spent (rw l at (i.moves b ps q)) refl

    pub inv_done : (ws' : List ℕ) (o : LookStep) → used < left → LookStepped book made ws ws' v s o → o ≡ Over → LookWent book made ws₀ v t left Done (used + 1)
    unfolding look_on
    inv_done ws' o l (on_look (none_left y) a) e b ps q =
        done (more {k = used + 1} {w = settle (enter_at b (v - 1) (bound (sym_w book t) (args_w book t))) ps} (i.moves b ps q) (a b (sym_w book t) (args_w book t) ps (store_here b q) ∙ rw (y, look_on) refl) (omega arith)) (omega arith)
    inv_done ws' o l (on_look (some_left g y) a) e b ps q = absurd_step (cc)
    inv_done ws' o l (on_found a) e b ps q = absurd_step (cc)
    inv_done ws' o l (on_full a) e b ps q = absurd_step (cc)

-- no unit at all
pub look_spent : (book : List ℕ) (made : ℕ) (ws : List ℕ) (v t left : ℕ) → left ≡ 0 → LookWent book made ws v t left (Stopped Budget) 0
look_spent book made ws v t left z b ps q = spent (still refl) (sym z)
