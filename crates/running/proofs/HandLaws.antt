-- A branch in hand, and the machine's unit for an answer.
use mathlib.Core.Path.{◌≡◌, refl, sym, ◌∙◌, ap}
use mathlib.Core.List.{List, [], ◌∷◌}
use Prim.Native.Nat.{ℕ, suc, ◌+◌, ◌-◌, ◌≤◌}
use native.Mathlib.Omega.{arith}
use lib.ListN.{length}
use Rattle.book.specs.Records.{last_record}
use Rattle.book.proofs.Pointers.{question_fields}
use Rattle.book.proofs.AcceptedScoped.{last_below, last_question}
use Rattle.machine.specs.declared.Tally.{Tally}
use Rattle.machine.specs.Machine.{Branch, Thread, solving, Todo, advance, solve}
use Rattle.machine.specs.Answers.{Line, write, unknown_terms}
use Rattle.machine.specs.Run.{Request, Result, answering, after, step}
use Rattle.words.specs.Good.{Slots}
use Rattle.words.specs.Frame.{Keeps}
use Rattle.words.proofs.FrameLaws.{fits_most}
use Rattle.words.proofs.StackLaws.{keeps_narrow}
use Rattle.std.proofs.Common.{Some, None}
use Rattle.branch.specs.State.{Tops, IsGoals, IsGoals.no_goals, IsGoals.goal_cell, IsBranch, Sound, Waiting, Agree}
use Rattle.seeking.specs.Memo.{forget_words, MemoOnly}
use Rattle.seeking.proofs.MemoLaws.{forget_only, forget_zero, memo_forgotten}
use Rattle.branch.proofs.FromScoped.{own_ready}
use Rattle.returning.proofs.MemoFrames.{indexed_only}
use Rattle.taking.proofs.MemoFrames.{stands_only}
use Rattle.steps.specs.declared.Branch.{Branch as Held}
use Rattle.steps.specs.declared.Regs.{Regs}
use Rattle.steps.specs.Search.{run_out, run_on, tops_of, Stands, Stands.goal_in_hand, Stands.going_back}
use Rattle.answers.specs.Numbers.{NoNumbers}
use Rattle.running.specs.Turns.{Taken, Midway}
use Rattle.steps.proofs.RunLaws.{at_thread, run_step, run_first}

-- what the registers stand for while a branch is in hand
pub record InHand (book ws : List ℕ) (r : Regs) (held : Held) (threads : List Thread) : Type 0 where
  pub branch : Branch
  pub rest : List Thread
  pub is : threads ≡ solving branch ∷ rest
  pub sound : Sound book ws (tops_of r)
  pub branch_is : IsBranch book ws (tops_of r) held.cell held.taken held.supposed branch
  pub waiting : Waiting book ws (tops_of r) rest

pub hand : {book ws : List ℕ} {r : Regs} {held : Held} {threads : List Thread} → Stands book ws r threads → r.branch ≡ Some held → InHand book ws r held threads
hand {book} {ws} {r} {held} (goal_in_hand {held = d} {b = b} {threads = ts} e S B W) s =
    let z : Some d ≡ Some held = sym e ∙ s in
    let i : d ≡ held = cc in
    record { branch = b; rest = ts; is = refl; sound = S; branch_is = rw i at B; waiting = W }
hand {held = held} (going_back e S W) s = let z : Some held ≡ None = sym s ∙ e in let c : ◌≡◌ {A = ℕ} 0 1 = cc in absurd (omega arith)

-- cell 0 is the empty list
pub list_empty : {book ws : List ℕ} {made cells programs c : ℕ} {gs : List Todo} → c ≡ 0 → IsGoals book ws made cells programs c gs → gs ≡ []
list_empty e (no_goals d) = refl
list_empty e (goal_cell a b x y m n g o p q) = absurd (omega arith)

-- an empty list: the unit is an answer
pub unit_answered : (q : Request) (n : ℕ) (b : Branch) (ts : List Thread) (y : Tally) (ls : List Line) → b.goals ≡ []
    → run_on q (suc n) y ls (solving b ∷ ts)
    ≡ run_out q n (answering q.wanted (at_thread (solving b) ts y ls) b (write y.answers b.store (q.places - length ls) [] (unknown_terms q.unknowns)))
unfolding step after advance solve
unit_answered q n b ts y ls e = run_first q (suc n) (solving b) ts y ls ∙ run_step q n (at_thread (solving b) ts y ls) ∙ ap (run_out q n) (rw e refl)

-- writing an answer changes nothing that the registers stand for
pub answer_agree : {book : List ℕ} (t : Tops) {ws ws' : List ℕ} → Sound book ws t → Keeps 0 16128 ws ws' → Agree t ws ws'
answer_agree t {ws} S K =
    let trail = fits_most t.made t.trail ws S.slots.room S.fits in
    record {
      slots = keeps_narrow (omega arith) (omega (arith, S.slots.room)) K;
      trail = keeps_narrow (omega arith) (omega arith) K;
      cells = keeps_narrow (omega arith) (omega (arith, S.cells_most)) K;
      programs = keeps_narrow (omega arith) (omega (arith, S.programs_most)) K;
      alternatives = keeps_narrow (omega arith) (omega (arith, S.alternatives_most)) K;
    }

-- the words have room for the variables made
pub words_room : {book ws : List ℕ} {r : Regs} {held : Held} {threads : List Thread} → Stands book ws r threads → r.branch ≡ Some held → r.made ≤ 2048
words_room S s = (hand S s).sound.slots.room

-- AN ANSWER: before it is written, nothing is remembered any more in the words of its variables
module _ (book : List ℕ) (unknowns wanted size budget : ℕ) (ws out : List ℕ) (r : Regs) (y : Tally) (end : ℕ) (whole : Result) (T : Taken book unknowns wanted size)
    (M : Midway book unknowns wanted size budget ws out r y end whole) {held : Held} (s : r.branch ≡ Some held) (ws₁ : List ℕ) (e : ws₁ ≡ forget_words r.made ws) where
  abbrev S : Sound book ws (tops_of r)
  S = (hand M.stands s).sound

  only : MemoOnly ws (forget_words r.made ws)
  only = forget_only r.made ws S.slots.room

  -- the run is midway as before
  pub midway_forgets : Midway book unknowns wanted size budget ws₁ out r y end whole
  midway_forgets = rw e (record {
    threads = M.threads;
    lines = M.lines;
    stands = stands_only only M.stands;
    indexed = indexed_only only (own_ready book T.accepted) M.indexed;
    memo = memo_forgotten r.made ws S.slots.room S.slots.size S.programs_most M.memo;
    within = M.within;
    fewer = M.fewer;
    assumed_few = M.assumed_few;
    room = M.room;
    buffer = M.buffer;
    end_is = M.end_is;
    same_run = M.same_run;
  })

  unknowns_few : unknowns ≤ 64
  unknowns_few = rw T.unknowns_are (question_fields book T.accepted.formed.fields (last_record book) (last_below book T.accepted) (last_question book T.accepted)).3

  -- and the answer can be written
  pub answer_ready : Slots book r.made ws₁ × ((unknowns ≤ r.made) × (unknowns ≤ 256) × (end ≤ size) × (size ≤ 65536)) × NoNumbers r.made ws₁
  answer_ready =
      let X = (hand midway_forgets.stands s).sound in
      let u = unknowns_few in (
        X.slots,
        (rw T.unknowns_are S.unknowns, omega arith, omega (arith, M.room, M.end_is), T.size_most),
        λ v l. rw e (forget_zero r.made ws S.slots.room S.slots.size (13568 + v) (omega arith) (omega arith)),
      )
