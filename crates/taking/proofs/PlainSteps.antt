-- Following plain rules, as the machine says it: what the code writes stands for what the units give.
use mathlib.Core.Path.{◌≡◌, refl, sym, ◌∙◌, ap}
use mathlib.Core.List.{List, ◌∷◌}
use Prim.Native.Nat.{ℕ, ◌+◌, ◌-◌, ◌*◌, ◌<◌}
use native.Mathlib.Omega.{arith}
use lib.ListN.{length}
use Rattle.book.specs.Decode.{goal_of}
use Rattle.book.proofs.Accepted.{Accepted}
use Rattle.machine.specs.declared.Tally.{Tally}
use Rattle.machine.specs.Answers.{Line}
use Rattle.machine.specs.Run.{Request}
use Rattle.machine.specs.Machine.{Thread, Todo, Force, solving, Branch, todo}
use Rattle.branch.proofs.StateLaws.{store_made}
use Rattle.seeking.proofs.SeekOwn.{own_at}
use Rattle.branch.proofs.TakeLaws.{CellAt}
use Rattle.following.specs.declared.Followed.{Followed}
use Rattle.following.specs.Plain.{own_program}
use Rattle.following.proofs.PlainRuns.{along, chain_goal, chain_runs}
use Rattle.steps.specs.declared.Branch.{Branch as Held}
use Rattle.steps.specs.declared.Regs.{Regs}
use Rattle.steps.specs.declared.Stepped.TheVariants.{Onward}
use Rattle.steps.proofs.LeaveLaws.{leaves_cell}
use Rattle.steps.specs.Search.{run_on, spent_units, tops_of, Stands.goal_in_hand, StepGives, StepGives.steps_on}
use Rattle.taking.specs.Takes.{PlainAhead, plain_words, plain_regs}
use Rattle.taking.proofs.HandLaws.{Hand, with_goal, goal_hand}
use Rattle.taking.proofs.TakeRuns.{cell_here}

module _ (book : List ℕ) (A : Accepted book) (ws : List ℕ) (r : Regs) (held : Held) (left : ℕ) (x : Branch) (threads : List Thread) (h : 0 < left)
    (H : Hand book ws (tops_of r) held.cell held.taken held.supposed x threads) (X : CellAt book ws r.made r.cells r.programs held.cell x.goals)
    (p : Followed) (some : 0 < p.rules) (P : PlainAhead book held (cell_here book A.formed ws r held left x threads h H X) left p) where
  made_now_lem : length x.store ≡ r.made
  made_now_lem = store_made H.sound H.branch

  program_own : X.program ≡ own_program book
  program_own = (own_at P.own X.program_is).0

  goals_are : x.goals ≡ todo (goal_of book X.g) X.b (own_program book) ∷ X.gs
  goals_are = X.is ∙ ap (λ (q : List Force). todo (goal_of book X.g) X.b q ∷ X.gs) program_own

  -- the rest of the list, with the rules' goals taken
  abbrev behind : Branch
  behind = record { goals = X.gs; store = x.store; taken = x.taken + p.rules; supposed = x.supposed }

  rest : Hand book ws (tops_of r) X.q (held.taken + p.rules) held.supposed behind threads
  rest =
      let B = H.branch in
      record {
        sound = H.sound;
        branch = record {
          goals = X.rest_is;
          store = B.store;
          taken_same = rw B.taken_same refl;
          supposed_same = B.supposed_same;
          cells_few = omega (arith, B.cells_few);
          programs_few = omega (arith, B.programs_few);
          alternatives_few = omega (arith, B.alternatives_few);
        };
        waiting = H.waiting;
      }

  abbrev runs : (q : Request) (k : ℕ) (y : Tally) (ls : List Line) (ts : List Thread)
      → run_on q (2 * p.rules + k) y ls (solving x ∷ ts) ≡ run_on q k (spent_units (2 * p.rules) y) ls (solving (along book x X.gs p.goal (x.taken + p.rules)) ∷ ts)
  runs =
      chain_runs book A X.g x X.b X.gs goals_are (omega (arith, made_now_lem, H.sound.slots.room)) p.goal p.rules P.chain some
      (omega (arith, P.goals, H.branch.taken_same))

  goal_is : todo (goal_of book p.goal) (length x.store) (own_program book) ≡ todo (goal_of book p.goal) r.made X.program
  goal_is = rw (made_now_lem, program_own) refl

  pub plain_steps : (ws' : List ℕ) → ws' ≡ plain_words r (cell_here book A.formed ws r held left x threads h H X) p ws → StepGives book ws ws' r left (solving x ∷ threads) (Onward (2 * p.rules) (plain_regs r held p))
  unfolding plain_words plain_regs
  plain_steps ws' e =
      let few = H.branch.cells_few in
      let z : 2 * p.rules + (left - 2 * p.rules) ≡ left = omega (arith, P.units) in
      let G = chain_goal A r.made P.chain some in
      let K = goal_hand rest p.goal r.made X.p X.program G (omega (arith, H.sound.slots.room)) X.program_is X.program_below (omega (arith, X.falls, X.below)) (omega arith) P.goals in
      rw e (steps_on {r' = plain_regs r held p} {used = 2 * p.rules} P.units (omega arith) (leaves_cell r.cells _ X.p X.q ws (omega (arith, few, P.goals)))
      (goal_in_hand refl K.sound K.branch K.waiting)
      (λ q y ls. ap (λ (k : ℕ). run_on q k y ls (solving x ∷ threads)) (sym z) ∙ runs q (left - 2 * p.rules) y ls threads ∙ ap (λ (t : Todo). run_on q (left - 2 * p.rules) (spent_units (2 * p.rules) y) ls (solving (with_goal t behind) ∷ threads)) goal_is))
