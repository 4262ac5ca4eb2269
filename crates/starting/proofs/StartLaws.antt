-- The start in the workspace stands for the start of the machine.
use mathlib.Core.Path.{◌≡◌, refl, sym, ◌∙◌, ap, subst}
use mathlib.Core.Logic.{inl, inr}
use mathlib.Core.Bool.{true, false}
use mathlib.Core.List.{List, [], ◌∷◌, map}
use Prim.Native.Nat.{ℕ, zero, suc, ◌+◌, ◌*◌, ◌≤◌, ◌<◌}
use native.Mathlib.Omega.{arith}
use native.Mathlib.Nat.{add-zero, sub-zero}
use lib.ListN.{length, get_or, take, replicate}
use Rattle.book.specs.Records.{field, records, last_record}
use Rattle.book.specs.Kinds.{kind_at, is_goal}
use Rattle.book.specs.Scoped.{ScopedGoal}
use Rattle.book.specs.Decode.{question_of, goal_of}
use Rattle.book.proofs.Accepted.{Accepted}
use Rattle.book.proofs.AcceptedScoped.{has_records, last_below, last_question, accepted_scoped}
use Rattle.book.proofs.Pointers.{question_fields, question_goal}
use Rattle.machine.specs.Machine.{Force, added, todo}
use Rattle.machine.specs.Store.{Entry, open_entry}
use Rattle.machine.specs.Run.{start}
use Rattle.machine.specs.Call.{no_counts}
use Rattle.machine.specs.declared.Tally.{Tally}
use Rattle.words.proofs.StackLaws.{keeps_narrow}
use Rattle.index.specs.Runs.{ClauseRun}
use Rattle.index.specs.Index.{IndexedFrom}
use Rattle.index.proofs.IndexLaws.{made_all}
use Rattle.supposed.specs.Supposed.{supposed_words}
use Rattle.supposed.proofs.SupposedLaws.{supposed_all}
use Rattle.supposed.proofs.SupposedKeeps.{supposed_length, supposed_own, supposed_keeps}
use Rattle.seeking.proofs.SeekChain.{all_same}
use Rattle.seeking.specs.Seeking.{AllIndexed}
use Rattle.seeking.specs.Memo.{Memo}
use Rattle.branch.proofs.FromScoped.{own_ready}
use Rattle.seeking.proofs.MemoLaws.{memo_none}
use Rattle.words.specs.Words.{term_word, entry_w, store_of}
use Rattle.words.specs.Frame.{Keeps}
use Rattle.branch.specs.State.{IsRest, IsRest.own_rest, IsProgram, IsGoals, IsGoals.no_goals, IsGoals.goal_cell, Sound, Waiting.none_waiting, own_run, rest_of, put_cell}
use Rattle.branch.proofs.TakeLaws.{put_outside, cell_word}
use Rattle.std.proofs.Common.{Some}
use Rattle.steps.specs.declared.Regs.{Regs}
use Rattle.steps.specs.Search.{tops_of, Stands, Stands.goal_in_hand}
use Rattle.running.specs.Turns.{Taken}
use Rattle.starting.specs.Start.{start_words, start_regs, Ready}

-- slots that are all 0 are a store with every entry open
open_entry_is : (book : List ℕ) (w : ℕ) → w ≡ 0 → entry_w book w ≡ open_entry
unfolding entry_w
open_entry_is book w e = rw e refl

open_store : (book : List ℕ) (m : ℕ) (ws : List ℕ) → m ≤ length ws → ((k : ℕ) → k < m → get_or ws k 0 ≡ 0) → map (entry_w book) (take m ws) ≡ replicate m open_entry
open_store book zero ws h z = refl
open_store book (suc m) [] h z = absurd (omega arith)
open_store book (suc m) (w ∷ ws) h z =
    ap (λ (e : Entry). e ∷ map (entry_w book) (take m ws)) (open_entry_is book w (z 0 (omega arith)))
    ∙ ap (λ (es : List Entry). open_entry ∷ es) (open_store book m ws (omega arith) (λ k l. z (suc k) (omega arith)))

made_is : (book : List ℕ) → (start_regs book).made ≡ field book (last_record book) 4
unfolding start_regs
made_is book = refl

module _ (book : List ℕ) (A : Accepted book) (ws : List ℕ) (size : length ws ≡ 16384) (z : (k : ℕ) → k < 64 → get_or ws k 0 ≡ 0) (I : AllIndexed book ws) where
  abbrev last : ℕ
  last = last_record book

  abbrev goal : ℕ
  goal = field book (last_record book) 3

  abbrev made : ℕ
  made = field book (last_record book) 4

  made_few : made ≤ 64
  made_few = (question_fields book A.formed.fields last (last_below book A) (last_question book A)).3

  goal_below : (goal < last) × (is_goal (kind_at book goal) ≡ true)
  goal_below = question_goal book A.formed last (last_below book A) (last_question book A)

  -- below the goal cells the words are still 0
  below : Keeps 0 6146 ws (start_words book ws)
  unfolding start_words
  below = put_outside 0 6146 1 (term_word goal 0) 0 0 ws (inr (omega arith))

  -- nothing is remembered
  pub start_memo : {budget : ℕ} → ((k : ℕ) → 13568 ≤ k → k < 15616 → get_or ws k 0 ≡ 0) → Memo book (start_words book ws) (start_regs book).programs budget
  unfolding start_words start_regs
  start_memo Z = memo_none (λ e b. (put_outside 13568 15616 1 (term_word goal 0) 0 0 ws (inl (omega arith))).same (13568 + 2 * e) (omega arith) (omega arith) ∙ Z (13568 + 2 * e) (omega arith) (omega arith))

  -- the indexes are not touched
  start_free : Keeps 12304 13328 ws (start_words book ws)
  unfolding start_words
  start_free = put_outside 12304 13328 1 (term_word goal 0) 0 0 ws (inl (omega arith))

  pub start_indexed : AllIndexed book (start_words book ws)
  start_indexed = all_same book (own_ready book A) (keeps_narrow (omega arith) (omega arith) below) start_free I

  slot_zero : (k : ℕ) → k < made → get_or (start_words book ws) k 0 ≡ 0
  slot_zero k l = let m = made_few in below.same k (omega arith) (omega arith) ∙ z k (omega arith)

  start_sound : Sound book (start_words book ws) (tops_of (start_regs book))
  unfolding start_regs
  start_sound = let m = made_few in record {
    slots = record { size = below.size ∙ size; room = omega arith; slots = λ v l. inl (slot_zero v l) };
    fits = omega arith;
    unknowns = omega arith;
    cells_some = omega arith;
    programs_some = omega arith;
    cells_most = omega arith;
    programs_most = omega arith;
    alternatives_most = omega arith;
    small = λ k l. absurd (omega arith);
  }

  start_program : IsProgram book (start_words book ws) made 1 0 (added (question_of book).clauses 0 [])
  unfolding question_of
  start_program =
      let e : rest_of book (own_run book) 0 [] ≡ added (question_of book).clauses 0 [] = rw (add-zero (field book last 1), sub-zero (field book last 2)) refl in
      subst (λ (l : List Force). IsRest book (start_words book ws) made 1 0 0 l) e (own_rest {p = 0} {i = 0} refl (omega arith) (omega arith))

  start_goals : IsGoals book (start_words book ws) made 2 1 1 (todo (goal_of book goal) 0 (added (question_of book).clauses 0 []) ∷ [])
  unfolding start_words question_of
  start_goals =
      let w = cell_word 1 (term_word goal 0) 0 0 ws (omega arith) in
      goal_cell {c = 1} {p = 0} {q = 0} {g = goal} {b = 0} {program = added (question_of book).clauses 0 []} {gs = []} (omega arith) (omega arith) w.0 w.1 (omega arith) (omega arith)
      (record {
        inside = let l = last_below book A in omega (arith, goal_below.0);
        kind = goal_below.1;
        holder = made;
        scoped = scoped_goal;
        room = omega arith;
      })
      (omega arith) start_program (no_goals refl)
    where
      scoped_goal : ScopedGoal made (goal_of book goal)
      scoped_goal = (accepted_scoped book A).1

  start_store : replicate made open_entry ≡ store_of book (start_words book ws) made
  unfolding store_of
  start_store = let m = made_few in sym (open_store book made (start_words book ws) (omega (arith, below.size, size)) slot_zero)

  pub stands_start : Stands book (start_words book ws) (start_regs book) ((start (question_of book)).thread ∷ [])
  unfolding start_regs start question_of
  stands_start =
      let m = made_few in
      goal_in_hand refl start_sound
      (record {
        goals = start_goals;
        store = start_store;
        taken_same = refl;
        supposed_same = refl;
        cells_few = omega arith;
        programs_few = omega arith;
        alternatives_few = omega arith;
      })
      (none_waiting refl)

-- THE CODE OF THE START
module _ (book : List ℕ) (A : Accepted book) where
  pub last_ready : (0 < records book) × (last_record book < records book)
  unfolding records last_record
  last_ready = (has_records book A, last_below book A)

  pub set_up_done : (goal unknowns : ℕ) (ws ws' : List ℕ) → goal ≡ field book (last_record book) 3 → unknowns ≡ field book (last_record book) 4
      → ws' ≡ put_cell 1 (4096 * (goal + 1)) 0 0 ws
      → (◌≡◌ {A = Regs} (record { made = unknowns; trail = 0; cells = 2; programs = 1; alternatives = 0; branch = Some (record { cell = 1; taken = 0; supposed = false }) }) (start_regs book)) × (ws' ≡ start_words book ws)
  unfolding start_regs start_words term_word
  set_up_done goal unknowns ws ws' a b e = (rw b refl, e ∙ rw (a, add-zero (4096 * (field book (last_record book) 3 + 1))) refl)

  pub run_clauses : (first n : ℕ) → first ≡ field book (last_record book) 1 → n ≡ field book (last_record book) 2 → ClauseRun book first n × ((first < 4096) × (n ≤ 1024))
  run_clauses first n a b = let O = own_ready book A in rw (a, b) (O.run, (O.first_small, O.count_small))

  pub own_indexed : (first n : ℕ) (ws ws' : List ℕ) → first ≡ field book (last_record book) 1 → n ≡ field book (last_record book) 2
      → IndexedFrom book first n 0 ws ws' → IndexedFrom book (own_run book).first (own_run book).count 0 ws ws'
  own_indexed first n ws ws' a b I = rw (a, b) at I

-- WHAT THE RUN ASKS FOR
module _ (book : List ℕ) (wanted budget : ℕ) (ws ws₁ ws₂ ws₃ out : List ℕ) (r : Regs) (so : Tally) (R : Ready book ws out wanted budget so)
    (I : IndexedFrom book (own_run book).first (own_run book).count 0 ws ws₁) (S : ws₂ ≡ supposed_words book (records book) ws₁) (e : r ≡ start_regs book) (w : ws₃ ≡ start_words book ws₂) where
  most : (own_run book).count ≤ 1024
  most = (own_ready book R.accepted).count_small

  size_own : length ws₁ ≡ 16384
  size_own = I.below.size ∙ R.size

  size_here : length ws₂ ≡ 16384
  size_here = rw S (supposed_length book (records book) ws₁) ∙ size_own

  open_here : (k : ℕ) → k < 64 → get_or ws₂ k 0 ≡ 0
  open_here k l = rw S ((supposed_keeps book (records book) 0 4096 ws₁ (inl (omega arith))).same k (omega arith) (omega arith)) ∙ I.below.same k (omega arith) (omega arith) ∙ R.open_slots k l

  above_here : (k : ℕ) → 13328 ≤ k → k < 16384 → get_or ws₂ k 0 ≡ get_or ws k 0
  above_here k a b = rw S ((supposed_keeps book (records book) 13328 16384 ws₁ (inr (inr (omega arith)))).same k a b) ∙ I.above.same k (omega (arith, most)) b

  memo_here : (k : ℕ) → 13568 ≤ k → k < 15616 → get_or ws₂ k 0 ≡ 0
  memo_here k a b = above_here k (omega arith) (omega arith) ∙ R.memo k a b

  indexed_here : AllIndexed book ws₂
  indexed_here = rw S (record {
    own = supposed_own book (own_run book).first (own_run book).count (records book) ws₁ size_own most (made_all book (own_run book).first (own_run book).count ws ws₁ most I);
    supposed = supposed_all book R.accepted ws₁ size_own;
  })

  pub run_ready : Taken book r.made wanted (length out) × (Stands book ws₃ r ((start (question_of book)).thread ∷ []) × ((AllIndexed book ws₃ × Memo book ws₃ r.programs budget) × ((so ≡ no_counts) × (out ≡ replicate (length out) 0))))
  run_ready = (
    record {
      accepted = R.accepted;
      unknowns_are = rw e (made_is book);
      wanted_some = R.wanted_some;
      wanted_most = R.wanted_most;
      size_most = R.room;
    },
    (
      rw (w, e) (stands_start book R.accepted ws₂ size_here open_here indexed_here),
      (
        (
          rw w (start_indexed book R.accepted ws₂ size_here open_here indexed_here),
          rw (w, e) (start_memo book R.accepted ws₂ size_here open_here indexed_here memo_here),
        ),
        (R.fresh, R.blank),
      ),
    ),
  )
