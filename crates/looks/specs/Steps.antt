-- One turn of the look, and the whole look.
use Rattle.std.specs.Prelude.{◌≡◌, List, [], ℕ, ◌-◌}
use Rattle.machine.specs.declared.Limit.TheVariants.{Lists}
use Rattle.machine.specs.Term.{Term, Terms, Pair}
use Rattle.machine.specs.Store.{bound}
use Rattle.machine.specs.Machine.{looking, Branch, stop, failed, only, advance, look_on, settle, enter_at}
use Rattle.words.specs.Words.{term_w, sym_w, args_w, store_of}
use Rattle.looks.specs.declared.How.{How}
use Rattle.looks.specs.declared.ToLook.{ToLook}
use Rattle.looks.specs.declared.LookStep.{LookStep}
use Rattle.looks.specs.declared.LookStep.TheVariants.{Found, Full}
use Rattle.looks.specs.Moves.{Went}
use Rattle.looks.specs.Runs.{list_of, Leaves}

-- looking for variable v - 1 in the first term of the list s: one unit
pub data LookStepped (book : List ℕ) (made : ℕ) (ws ws' : List ℕ) (v : ℕ) (s : ToLook) : LookStep → Type 0 where
  on_look : {o : LookStep} {l : List Term} → Leaves book made ws' l o
      → ((b : Branch) (f : ℕ) (ts : Terms) (ps : List Pair) → b.store ≡ store_of book ws made
      → advance (look_on b (v - 1) f ts (list_of book ws s) ps) ≡ only (look_on b (v - 1) f ts l ps))
      → LookStepped book made ws ws' v s o
  on_found : ((b : Branch) (f : ℕ) (ts : Terms) (ps : List Pair) → b.store ≡ store_of book ws made
      → advance (look_on b (v - 1) f ts (list_of book ws s) ps) ≡ failed)
      → LookStepped book made ws ws' v s Found
  on_full : ((b : Branch) (f : ℕ) (ts : Terms) (ps : List Pair) → b.store ≡ store_of book ws made
      → advance (look_on b (v - 1) f ts (list_of book ws s) ps) ≡ stop Lists)
      → LookStepped book made ws ws' v s Full

-- the whole look for variable v - 1 in term word t
abbrev pub LookWent : List ℕ → ℕ → List ℕ → ℕ → ℕ → ℕ → How → ℕ → Type 0
LookWent book made ws v t left how used = (b : Branch) (ps : List Pair) → b.store ≡ store_of book ws made
    → Went (looking b (v - 1) (sym_w book t) (args_w book t) (term_w book t) [] ps) (settle (enter_at b (v - 1) (bound (sym_w book t) (args_w book t))) ps) left how used
