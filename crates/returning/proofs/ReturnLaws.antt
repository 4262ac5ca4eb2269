-- Going back to the newest alternative: what was there, by the numbers that the code reads.
use mathlib.Core.Path.{◌≡◌, refl, sym, ◌∙◌, ap}
use mathlib.Core.List.{List, [], ◌∷◌}
use Prim.Native.Nat.{ℕ, suc, ◌+◌, ◌-◌, ◌*◌, ◌≤◌, ◌<◌}
use native.Mathlib.Omega.{arith}
use lib.ListN.{get_or}
use Rattle.std.proofs.Common.{None}
use Rattle.machine.specs.declared.Ending.TheVariants.{Complete}
use Rattle.machine.specs.declared.Tally.{Tally}
use Rattle.machine.specs.Machine.{Thread}
use Rattle.machine.specs.Run.{go_on}
use Rattle.words.specs.Frame.{Keeps, undo}
use Rattle.words.proofs.FrameLaws.{undo_keeps}
use Rattle.branch.specs.declared.Back.{Back}
use Rattle.branch.specs.State.{Tops, Sound, Kept, Alternative, Alternative.other_goal, Alternative.other_clause, Waiting, Waiting.none_waiting, Waiting.one_waiting}
use Rattle.branch.specs.Alternatives.{back_of}
use Rattle.branch.proofs.BackLaws.{low, high, place_index, place_call, place_node, Resumed, resume}
use Rattle.steps.specs.declared.Regs.{Regs}
use Rattle.steps.specs.declared.Stepped.TheVariants.{Finished}
use Rattle.steps.proofs.RunLaws.{none_spent}
use Rattle.steps.specs.Search.{run_out, run_on, tops_of, Stands, Stands.goal_in_hand, Stands.going_back, StepGives, StepGives.steps_end}
use Rattle.returning.specs.Returns.{tops_at, Again, Returned, Returned.to_goal, Returned.to_clause}
use Rattle.returning.proofs.RenewLaws.{goals_below}

tops_same : (x : Back) (t : Tops) (k : ℕ) → x.made ≡ t.made → x.trail ≡ t.trail → x.cells ≡ t.cells → x.programs ≡ t.programs → t.alternatives ≡ k → tops_at x k ≡ t
tops_same x t k a b c d e = rw (a, b, c, d, ← e) refl

-- WHAT THE REGISTERS SAY in the mode of going back
pub stands_back : {book ws : List ℕ} {r : Regs} {threads : List Thread} → r.branch ≡ None → Stands book ws r threads → Sound book ws (tops_of r) × Waiting book ws (tops_of r) threads
stands_back e (goal_in_hand s S B W) = let z = sym s ∙ e in let c : ◌≡◌ {A = ℕ} 0 1 = cc in absurd (omega arith)
stands_back e (going_back s S W) = (S, W)

none_left : {book ws : List ℕ} {t : Tops} {threads : List Thread} → t.alternatives ≡ 0 → Waiting book ws t threads → threads ≡ []
none_left e (none_waiting a) = refl
none_left e (one_waiting a h b c d f S B Y W) = absurd (omega arith)

module _ (book : List ℕ) (ws : List ℕ) (r : Regs) (left : ℕ) (threads : List Thread) (e : r.branch ≡ None) (Z : Stands book ws r threads) where
  -- none left: the search is complete
  pub complete : r.alternatives ≡ 0 → StepGives book ws ws r left threads (Finished Complete 0)
  unfolding run_on run_out go_on
  complete h =
      let z = none_left h (stands_back e Z).1 in
      steps_end {e = Complete} {used = 0} (omega arith) refl (λ q y ls. rw z (ap (λ (t : Tally). record { ending = Complete; tally = t; lines = ls }) (none_spent y)))

-- the newest alternative
pub record Newest (book ws : List ℕ) (t : Tops) (k : ℕ) (threads : List Thread) : Type 0 where
  pub thread : Thread
  pub ts : List Thread
  pub is : threads ≡ thread ∷ ts
  pub resumed : Resumed book ws t k thread ts

pub newest : {book ws : List ℕ} {t : Tops} {threads : List Thread} (k : ℕ) → t.alternatives ≡ suc k → Sound book ws t → Waiting book ws t threads → Newest book ws t k threads
newest k e S (none_waiting a) = absurd (omega arith)
newest {book} {ws} {t} k e S (one_waiting {k = j} {x = x} {b = b} {thread = thread} {threads = ts} a h c d f g Sx B Y W) = record
    { thread = thread; ts = ts; is = refl; resumed = resume k e S (one_waiting {k = j} {x = x} {b = b} {thread = thread} {threads = ts} a h c d f g Sx B Y W) }

-- it has no more programs than there are now
pub newest_programs : {book ws : List ℕ} {t : Tops} {threads : List Thread} (k : ℕ) → t.alternatives ≡ suc k → Waiting book ws t threads → (back_of ws k).programs ≤ t.programs
unfolding back_of
newest_programs k e (none_waiting a) = absurd (omega arith)
newest_programs {ws = ws} {t = t} k e (one_waiting {k = j} {x = x} a h c d f g Sx B Y W) =
    let q : j ≡ k = omega arith in
    let l = rw q at h.lists in
    let p : (back_of ws k).programs ≡ x.tops.programs = high x.tops.programs x.tops.cells _ (omega (arith, Sx.cells_most)) l in
    omega (arith, p, g)

-- THE NUMBERS as the code reads them
module _ (book : List ℕ) (ws : List ℕ) (t : Tops) (k : ℕ) (thread : Thread) (ts : List Thread) (Y : Resumed book ws t k thread ts) where
  abbrev x : Back
  x = back_of ws k

  abbrev now : List ℕ
  now = undo (t.trail - x.trail) x.trail ws

  abbrev K : Kept
  K = Y.kept

  stays : Keeps 2048 16384 ws now
  stays = undo_keeps (t.trail - x.trail) x.trail ws Y.ready.small

  cells_is : x.cells ≡ K.tops.cells
  unfolding back_of
  cells_is = low K.tops.programs K.tops.cells _ (omega (arith, Y.sound.cells_most)) Y.holds.lists

  programs_is : x.programs ≡ K.tops.programs
  unfolding back_of
  programs_is = high K.tops.programs K.tops.cells _ (omega (arith, Y.sound.cells_most)) Y.holds.lists

  cell_small : K.cell < 4096
  cell_small = omega (arith, goals_below Y.sound.cells_some Y.there.goals, Y.sound.cells_most)

  cell_is : x.cell ≡ K.cell
  unfolding back_of
  cell_is = low K.taken K.cell _ cell_small Y.holds.branch

  taken_is : x.taken ≡ K.taken
  unfolding back_of
  taken_is = high K.taken K.cell _ cell_small Y.holds.branch

  tops_is : tops_at x k ≡ K.tops
  tops_is = tops_same x K.tops k Y.made Y.trail cells_is programs_is Y.holds.below

  again : Again book now k x Y.branch ts
  unfolding back_of
  again = record {
    supposed = K.supposed;
    flagged = Y.supposed;
    sound = rw tops_is Y.sound;
    there = rw (tops_is, cell_is, taken_is) Y.there;
    waiting = rw tops_is Y.waiting;
    few = rw taken_is Y.holds.few;
  }

  -- a word of the alternative
  word : (i : ℕ) → i < 5 → get_or now (9744 + 5 * k + i) 0 ≡ get_or ws (9744 + 5 * k + i) 0
  word i h = stays.same (9744 + 5 * k + i) (omega arith) (omega (arith, Y.ready.below))

  pub returned : Returned book now k x (thread ∷ ts)
  unfolding back_of
  returned = go Y.alternative
    where
      go : {u : Thread} → Alternative book now k K Y.branch u → Returned book now k x (u ∷ ts)
      go (other_goal e) = to_goal (sym (word 3 (omega arith)) ∙ e) again
      go (other_clause {a = a} {e = e} {p = p} {q = q} {i = i} {program = program} {rest = rest} {c = c} aw eb cw pb ib kd gh pr cl fi ro mo) =
          let m : x.made ≡ K.tops.made = Y.made in
          let w = sym (word 4 (omega arith)) ∙ cw in
          let pi : x.call ≡ p = place_call q p i _ ib pb w in
          let qi : x.node ≡ q = place_node q p i _ ib pb w in
          let ii : x.index ≡ i = place_index q p i _ ib pb w in
          to_clause (record {
            b = Y.branch;
            ts = ts;
            a = a;
            e = e;
            program = program;
            f = c;
            after = rest;
            again = again;
            with = record {
              atom = sym (word 3 (omega arith)) ∙ aw;
              base = eb;
              kind = kd;
              here = rw m gh;
              called = rw pi pb;
              program_is = rw (m, programs_is, pi) pr;
              clause = rw (m, programs_is, qi, ii) cl;
              first = fi;
              room = rw (cells_is, taken_is) ro;
              most = rw taken_is mo;
            };
            is = refl;
          })
