-- Taking a goal, as the machine says it: for each kind of goal, what the code writes stands for what the unit gives.
use mathlib.Core.Path.{◌≡◌, refl, ◌∙◌, ap}
use mathlib.Core.Bool.{Bool, true}
use mathlib.Core.List.{List, [], ◌∷◌, ◌++◌}
use Prim.Native.Nat.{ℕ, suc, ◌+◌, ◌-◌, ◌*◌, ◌≤◌, ◌<◌}
use native.Mathlib.Omega.{arith}
use borrow.Author.Tests.{le-ltb}
use Rattle.book.specs.Records.{field}
use Rattle.book.specs.Kinds.{kind_at, and_kind, or_kind, suppose_kind}
use Rattle.book.specs.Tree.{Goal}
use Rattle.book.specs.Scoped.{ScopedGoal, ScopedClauses}
use Rattle.book.specs.Decode.{goal_of, clauses_of}
use Rattle.book.proofs.Accepted.{Formed}
use Rattle.book.proofs.Pointers.{or_goals, suppose_goal}
use Rattle.book.proofs.Unfolding.{goal_and, goal_or, goal_suppose}
use Rattle.machine.specs.declared.Limit.TheVariants.{Goals}
use Rattle.machine.specs.declared.Ending.TheVariants.{Stopped}
use Rattle.machine.specs.Machine.{Thread, solving, Branch, on, stop, advance, solve, taking, took, took_suppose, todo}
use Rattle.words.specs.Words.{term_word}
use Rattle.branch.specs.State.{GoalHere}
use Rattle.branch.proofs.StateLaws.{rest_agree}
use Rattle.branch.proofs.TakeLaws.{CellAt, goal_unit, and_left, and_right}
use Rattle.steps.specs.declared.Branch.{Branch as Held}
use Rattle.steps.specs.declared.Regs.{Regs}
use Rattle.steps.specs.declared.Stepped.TheVariants.{Onward, Finished}
use Rattle.steps.proofs.LeaveLaws.{leaves_trans, leaves_cell, leaves_kept}
use Rattle.steps.specs.Search.{run_on, spent_units, tops_of, Leaves, Stands.goal_in_hand, StepGives, StepGives.steps_on, StepGives.steps_end}
use Rattle.steps.proofs.RunLaws.{unit_gives, unit_stop}
use Rattle.taking.specs.declared.Cell.{Cell}
use Rattle.taking.specs.Takes.{in_hand, and_words, and_regs, or_kept, or_words, or_regs, suppose_words, suppose_regs}
use Rattle.taking.proofs.HandLaws.{Hand, leaves_program, goal_program, goal_rest, goal_hand, program_hand, program_is, kept_agree, kept_hand}

-- the goals of an or, and of a suppose goal
module _ (book : List ℕ) (F : Formed book) (made g b : ℕ) (H : GoalHere book made g b) where
  or_scoped : kind_at book g ≡ or_kind → ScopedGoal H.holder (goal_of book (field book g 1)) × ScopedGoal H.holder (goal_of book (field book g 2))
  or_scoped k = rw (goal_or book F g H.inside k) at H.scoped

  or_left : kind_at book g ≡ or_kind → GoalHere book made (field book g 1) b
  or_left k = let x = (or_goals book F g H.inside k).0 in record { inside = omega (arith, x.0, H.inside); kind = x.1; holder = H.holder; scoped = (or_scoped k).0; room = H.room }

  or_right : kind_at book g ≡ or_kind → GoalHere book made (field book g 2) b
  or_right k = let x = (or_goals book F g H.inside k).1 in record { inside = omega (arith, x.0, H.inside); kind = x.1; holder = H.holder; scoped = (or_scoped k).1; room = H.room }

  suppose_scoped : kind_at book g ≡ suppose_kind → ScopedClauses H.holder (clauses_of book (field book g 1) (field book g 2)) × ScopedGoal H.holder (goal_of book (field book g 3))
  suppose_scoped k = rw (goal_suppose book F g H.inside k) at H.scoped

  supposed_goal : kind_at book g ≡ suppose_kind → GoalHere book made (field book g 3) b
  supposed_goal k = let x = suppose_goal book F g H.inside k in record { inside = omega (arith, x.0, H.inside); kind = x.1; holder = H.holder; scoped = (suppose_scoped k).1; room = H.room }

-- THE GOAL IN HAND, in the cell that the registers say
module _ (book : List ℕ) (F : Formed book) (ws : List ℕ) (r : Regs) (held : Held) (left : ℕ) (x : Branch) (threads : List Thread) (h : 0 < left)
    (H : Hand book ws (tops_of r) held.cell held.taken held.supposed x threads) (X : CellAt book ws r.made r.cells r.programs held.cell x.goals) where
  abbrev pub cell_here : Cell
  cell_here = record { word = term_word X.g X.b; goal = X.g; base = X.b; program = X.p; next = X.q }

  -- 3 a goal would be the 513th taken on the present branch
  limit : 512 ≤ held.taken → advance (solving x) ≡ stop Goals
  unfolding advance solve
  limit l = let m : 512 ≤ x.taken = rw H.branch.taken_same l in ap (solve x) X.is ∙ rw (solve, le-ltb x.taken 512 m) refl

  pub goals_stop : 512 ≤ held.taken → StepGives book ws ws r left (solving x ∷ threads) (Finished (Stopped Goals) 0)
  unfolding spent_units
  goals_stop l =
      steps_end {e = Stopped Goals} {used = 0} (omega arith) refl
      (λ q y ls.
      let z : left ≡ suc (left - 1) = omega arith in
      let u : y.units + 0 ≡ y.units = omega arith in
      ap (λ (n : ℕ). run_on q n y ls (solving x ∷ threads)) z ∙ unit_stop q (left - 1) (solving x) Goals threads y ls (limit l) ∙ rw u refl)

  module _ (l : held.taken < 512) where
    took_goal : (g : Goal) → goal_of book X.g ≡ g → advance (solving x) ≡ on (taking x X.b X.program X.gs g)
    took_goal g e =
        goal_unit x (todo (goal_of book X.g) X.b X.program) X.gs (rw H.branch.taken_same l) X.is
        ∙ ap (λ (z : Goal). on (taking x X.b X.program X.gs z)) e

    -- the branch without the goal, one more being taken
    rest_hand : (s : Bool) (y : Branch) → y.goals ≡ X.gs → y.store ≡ x.store → y.taken ≡ suc x.taken → y.supposed ≡ s → Hand book ws (tops_of r) X.q (held.taken + 1) s y threads
    rest_hand s y a b c d =
        let B = H.branch in
        record {
          sound = H.sound;
          branch = record {
            goals = rw a X.rest_is;
            store = b ∙ B.store;
            taken_same = c ∙ rw B.taken_same (omega arith);
            supposed_same = d;
            cells_few = omega (arith, B.cells_few);
            programs_few = omega (arith, B.programs_few);
            alternatives_few = omega (arith, B.alternatives_few);
          };
          waiting = H.waiting;
        }

    -- the step gives a branch in hand
    onward : (ws' : List ℕ) (c p a : ℕ) (s : Bool) (y : Branch) (us : List Thread) → advance (solving x) ≡ on (solving y ∷ us)
        → Leaves ws ws' → Hand book ws' (tops_of (in_hand r (record { cell = held.cell; taken = held.taken; supposed = s }) c p a)) c (held.taken + 1) s y (us ++ threads) → StepGives book ws ws' r left (solving x ∷ threads) (Onward 1 (in_hand r (record { cell = held.cell; taken = held.taken; supposed = s }) c p a))
    unfolding in_hand
    onward ws' c p a s y us e L K =
        steps_on {r' = in_hand r (record { cell = held.cell; taken = held.taken; supposed = s }) c p a} {used = 1} h (omega arith) L (goal_in_hand refl K.sound K.branch K.waiting) (unit_gives left (solving x) threads h (solving y ∷ us) e)

    falls : X.q < r.cells
    falls = omega (arith, X.falls, X.below)

    rest : Hand book ws (tops_of r) X.q (held.taken + 1) held.supposed (took x X.gs) threads
    rest = rest_hand held.supposed (took x X.gs) refl refl refl H.branch.supposed_same

    pub and_steps : (ws' : List ℕ) → kind_at book X.g ≡ and_kind → ws' ≡ and_words book r cell_here ws → StepGives book ws ws' r left (solving x ∷ threads) (Onward 1 (and_regs r held))
    unfolding and_words and_regs taking in_hand
    and_steps ws' k e =
        let few = H.branch.cells_few in
        let R = and_right book F r.made X.g X.b X.here k in
        let L = and_left book F r.made X.g X.b X.here k in
        let one = goal_hand rest (field book X.g 2) X.b X.p X.program R X.base X.program_is X.program_below falls (omega arith) (omega arith) in
        let P = goal_program rest (field book X.g 2) X.b X.p X.program R X.base X.program_is X.program_below falls (omega arith) (omega arith) in
        rw e (onward _ (r.cells + 1) r.programs r.alternatives held.supposed _ [] (took_goal _ (goal_and book F X.g X.here.inside k))
        (leaves_trans (leaves_cell r.cells _ X.p X.q ws (omega (arith, few))) (leaves_cell (r.cells + 1) _ X.p r.cells _ (omega (arith, few))))
        (goal_hand one (field book X.g 1) X.b X.p X.program L X.base P X.program_below (omega arith) (omega arith) (omega arith)))

    pub or_steps : (ws' : List ℕ) → kind_at book X.g ≡ or_kind → ws' ≡ or_words book r held cell_here ws → StepGives book ws ws' r left (solving x ∷ threads) (Onward 1 (or_regs r held))
    unfolding or_words or_kept or_regs taking in_hand
    or_steps ws' k e =
        let B = H.branch in
        let few : r.cells + 1 ≤ 2 * (held.taken + 1) + 2 = omega (arith, B.cells_few) in
        let R = or_right book F r.made X.g X.b X.here k in
        let L = or_left book F r.made X.g X.b X.here k in
        let right = goal_hand rest (field book X.g 2) X.b X.p X.program R X.base X.program_is X.program_below falls few (omega arith) in
        let other = goal_rest rest (field book X.g 2) X.b X.p X.program R X.base X.program_is X.program_below falls few (omega arith) in
        let P = goal_program rest (field book X.g 2) X.b X.p X.program R X.base X.program_is X.program_below falls few (omega arith) in
        let a : r.alternatives < held.taken + 1 = omega (arith, B.alternatives_few) in
        let kept = kept_hand right X.q (took x X.gs) other.branch a (omega arith) in
        let A = kept_agree right X.q (took x X.gs) other.branch a (omega arith) in
        rw e (onward _ (r.cells + 1) r.programs (r.alternatives + 1) held.supposed _ (solving _ ∷ []) (took_goal _ (goal_or book F X.g X.here.inside k))
        (leaves_trans (leaves_cell r.cells _ X.p X.q ws (omega (arith, B.cells_few))) (leaves_trans (leaves_kept _ r.alternatives _ (omega arith) right.sound.slots.size) (leaves_cell (r.cells + 1) _ X.p X.q _ (omega (arith, B.cells_few)))))
        (goal_hand kept (field book X.g 1) X.b X.p X.program L X.base (rest_agree A (omega arith) P) X.program_below (omega (arith, falls)) (omega (arith, B.cells_few)) (omega arith)))

    pub suppose_steps : (ws' : List ℕ) → kind_at book X.g ≡ suppose_kind → ws' ≡ suppose_words book r cell_here left ws → StepGives book ws ws' r left (solving x ∷ threads) (Onward 1 (suppose_regs r held))
    unfolding suppose_words suppose_regs taking in_hand
    suppose_steps ws' k e =
        let B = H.branch in
        let few : r.programs + 1 ≤ held.taken + 1 + 1 = omega (arith, B.programs_few) in
        let G = supposed_goal book F r.made X.g X.b X.here k in
        let T = rest_hand true (took_suppose x X.gs) refl refl refl refl in
        let put = program_hand T X.g X.b X.p left X.program k X.here X.base X.program_is X.program_below few (omega arith) in
        let P = program_is T X.g X.b X.p left X.program k X.here X.base X.program_is X.program_below few (omega arith) in
        rw e (onward _ r.cells (r.programs + 1) r.alternatives true _ [] (took_goal _ (goal_suppose book F X.g X.here.inside k))
        (leaves_trans (leaves_program r.programs _ X.p left ws (omega (arith, B.programs_few))) (leaves_cell r.cells _ r.programs X.q _ (omega (arith, B.cells_few))))
        (goal_hand put (field book X.g 3) X.b r.programs _ G X.base P (omega arith) falls (omega (arith, B.cells_few)) (omega arith)))
