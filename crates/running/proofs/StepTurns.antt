-- A turn that is a step, and a turn that finds the budget spent.
use mathlib.Core.Path.{◌≡◌, refl, sym, ◌∙◌, ap}
use mathlib.Core.Bool.{Bool, true, false}
use mathlib.Core.List.{List}
use Prim.Native.Nat.{ℕ, ◌+◌, ◌-◌, ◌<◌}
use native.Mathlib.Omega.{arith}
use borrow.Author.Tests.{eqb-true, eqb-false, eq-eqb, ne_eqb}
use lib.Dec.{eqb}
use Rattle.machine.specs.declared.Limit.TheVariants.{Budget}
use Rattle.machine.specs.declared.Ending.TheVariants.{Stopped}
use Rattle.machine.specs.declared.Tally.{Tally}
use Rattle.machine.specs.Machine.{Thread}
use Rattle.machine.specs.Run.{Result}
use Rattle.machine.specs.Call.{filled_buffer}
use Rattle.steps.specs.declared.Branch.{Branch as Held}
use Rattle.steps.specs.declared.Regs.{Regs}
use Rattle.steps.specs.declared.Stepped.{Stepped}
use Rattle.returning.specs.declared.Reached.{Reached}
use Rattle.returning.specs.declared.Reached.TheVariants.{Finished}
use Rattle.returning.specs.Reaching.{ReachGives.reach_end, ReachContract, GoesOn}
use Rattle.steps.specs.Search.{run_on, spent_units, units_of, StepGives, StepGives.steps_on, StepGives.steps_end, StepContract, MemoStepped}
use Rattle.steps.proofs.RunLaws.{none_spent, units_most, unit_none}
use Rattle.running.specs.declared.Turned.{Turned}
use Rattle.running.specs.declared.Turned.TheVariants.{Over}
use Rattle.seeking.proofs.SeekChain.{all_same}
use Rattle.branch.proofs.FromScoped.{own_ready}
use Rattle.std.proofs.Common.{Option, Some, None}
use Rattle.running.specs.Turns.{answer_due, answer_due_by, Taken, request_of, Midway, TurnGives, TurnGives.turns_on, TurnGives.turns_over, turn_by}
use Rattle.running.proofs.HandLaws.{hand}

-- no branch in hand
pub none_held : (x : Option Held) → ((held : Held) → x ≡ Some held → ⊥) → x ≡ None
none_held (Some held) n = absurd (n held refl)
none_held None n = refl

-- WHETHER AN ANSWER IS DUE
pub due_hand : (held : Held) (x : Option Held) → x ≡ Some held → held.cell ≡ 0 → Some held ≡ answer_due_by x
unfolding answer_due_by
due_hand held x e d = let z : eqb held.cell 0 ≡ true = eq-eqb held.cell 0 d in rw e (rw (answer_due_by, z) refl)

pub due_goal : (held : Held) (x : Option Held) → x ≡ Some held → (held.cell ≡ 0 → ⊥) → None ≡ answer_due_by x
unfolding answer_due_by
due_goal held x e d = let z : eqb held.cell 0 ≡ false = ne_eqb held.cell 0 d in rw e (rw (answer_due_by, z) refl)

pub due_back : (x : Option Held) → x ≡ None → None ≡ answer_due_by x
unfolding answer_due_by
due_back x e = rw e refl

due_cell : (d held : Held) (t : Bool) → eqb d.cell 0 ≡ t → ◌≡◌ {A = Option Held} (elim t [ true ↦ Some d | false ↦ None ]) (Some held) → (Some d ≡ Some held) × (held.cell ≡ 0)
due_cell d held true e z = let i : d ≡ held = cc in (z, rw i at (eqb-true d.cell 0 e))
due_cell d held false e z = let w : ◌≡◌ {A = ℕ} 0 1 = cc in absurd (omega arith)

due_from : (held : Held) (x : Option Held) → answer_due_by x ≡ Some held → (x ≡ Some held) × (held.cell ≡ 0)
unfolding answer_due_by
due_from held (Some d) z = due_cell d held (eqb d.cell 0) refl z
due_from held None z = let w : ◌≡◌ {A = ℕ} 0 1 = cc in absurd (omega arith)

module _ (r : Regs) (held : Held) where
  pub due_yes : (t : Option Held) → t ≡ answer_due r → t ≡ Some held → (r.branch ≡ Some held) × (held.cell ≡ 0)
  due_yes t e d = due_from held r.branch (sym e ∙ d)

  pub due_no : answer_due r ≡ None → r.branch ≡ Some held → 0 < held.cell
  due_no e s = no (eqb held.cell 0) refl (ap answer_due_by (sym s) ∙ e)
    where
      no : (t : Bool) → eqb held.cell 0 ≡ t → answer_due_by (Some held) ≡ None → 0 < held.cell
      no true q z = let w : Some held ≡ None = due_hand held (Some held) refl (eqb-true held.cell 0 q) ∙ z in let c : ◌≡◌ {A = ℕ} 0 1 = cc in absurd (omega arith)
      no false q z = let n = eqb-false held.cell 0 q in omega arith

-- a goal is to be taken, and the budget is spent
pub goal_spent : {book ws : List ℕ} {r : Regs} {held : Held} {left : ℕ} → r.branch ≡ Some held → left ≡ 0 → ReachContract book ws ws r left (Finished (Stopped Budget) 0)
goal_spent s z threads Z =
    let H = hand Z s in
    reach_end (steps_end {e = Stopped Budget} {used = 0} (omega arith) refl
    (λ q y ls. rw (z, H.is) (unit_none q _ H.rest y ls) ∙ ap (λ (t : Tally). record { ending = Stopped Budget; tally = t; lines = ls }) (none_spent y)))

-- THE STEP: what was reached, and going on from it
module _ {book ws ws₁ ws₂ : List ℕ} {r : Regs} {left : ℕ} {o : Reached} {s : Stepped} where
  pub step_whole : ReachContract book ws ws₁ r left o → GoesOn book ws₁ ws₂ left o s → StepContract book ws ws₂ r left s
  step_whole R G threads Z = G ws r threads (R threads Z)

module _ (book : List ℕ) (unknowns wanted size budget : ℕ) (ws out : List ℕ) (r : Regs) (y : Tally) (end : ℕ) (whole : Result)
    (T : Taken book unknowns wanted size) (M : Midway book unknowns wanted size budget ws out r y end whole) where
  pub units_fit : (ws' : List ℕ) (left : ℕ) (o : Stepped) → budget < 4294967296 → left ≡ budget - y.units → StepContract book ws ws' r left o → y.units + units_of o < 4294967296
  units_fit ws' left o b e S = omega (arith, M.within, units_most (S M.threads M.stands))

  turned : (ws' : List ℕ) (left : ℕ) (o : Stepped) → left ≡ budget - y.units → StepGives book ws ws' r left M.threads o → MemoStepped book ws' left o → TurnGives book unknowns wanted size budget ws' out r y whole (turn_by y end o)
  unfolding turn_by spent_units MemoStepped
  turned ws' left o e (steps_on {r' = r'} {used = used} {threads' = ts} a p k S x) m =
      let h = M.within in
      let z : left - used ≡ budget - (y.units + used) = omega arith in
      turns_on {r' = r'} {y' = spent_units used y} {end' = end}
      (record {
        threads = ts;
        lines = M.lines;
        stands = S;
        indexed = all_same book (own_ready book T.accepted) k.index k.free M.indexed;
        memo = rw z at m;
        within = omega arith;
        fewer = M.fewer;
        assumed_few = M.assumed_few;
        room = M.room;
        buffer = M.buffer;
        end_is = M.end_is;
        same_run = M.same_run ∙ ap (λ (n : ℕ). run_on (request_of unknowns wanted size) n y M.lines M.threads) (sym e) ∙ x (request_of unknowns wanted size) y M.lines
            ∙ ap (λ (n : ℕ). run_on (request_of unknowns wanted size) n (spent_units used y) M.lines ts) z;
      })
      (omega arith)
  turned ws' left o e (steps_end {e = d} {used = used} a l x) m =
      let w : whole ≡ record { ending = d; tally = spent_units used y; lines = M.lines } =
      M.same_run ∙ ap (λ (n : ℕ). run_on (request_of unknowns wanted size) n y M.lines M.threads) (sym e) ∙ x (request_of unknowns wanted size) y M.lines in
      turns_over (ap (λ t. t.ending) w) (ap (λ t. t.tally) w) (M.buffer ∙ ap (λ t. filled_buffer size t.lines) (sym w))

  pub step_turns : (ws' : List ℕ) (left : ℕ) (s : Stepped) (o : Turned) → left ≡ budget - y.units → StepContract book ws ws' r left s → MemoStepped book ws' left s → o ≡ turn_by y end s → TurnGives book unknowns wanted size budget ws' out r y whole o
  step_turns ws' left s o e S m q = rw q (turned ws' left s e (S M.threads M.stands) m)

  pub budget_spent : {held : Held} (left : ℕ) → r.branch ≡ Some held → left ≡ budget - y.units → left ≡ 0 → TurnGives book unknowns wanted size budget ws out r y whole (Over (Stopped Budget) y)
  budget_spent left s e z =
      let H = hand M.stands s in
      let w : whole ≡ record { ending = Stopped Budget; tally = y; lines = M.lines } =
      M.same_run ∙ ap (λ (n : ℕ). run_on (request_of unknowns wanted size) n y M.lines M.threads) (sym e ∙ z)
      ∙ ap (λ (ts : List Thread). run_on (request_of unknowns wanted size) 0 y M.lines ts) H.is ∙ unit_none (request_of unknowns wanted size) _ H.rest y M.lines in
      turns_over (ap (λ t. t.ending) w) (ap (λ t. t.tally) w) (M.buffer ∙ ap (λ t. filled_buffer size t.lines) (sym w))
