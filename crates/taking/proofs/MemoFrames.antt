-- What stays as it is when nothing but the memo differs, and the memo where taking a goal has come to.
use mathlib.Core.Path.{◌≡◌, ◌∙◌}
use mathlib.Core.Logic.{inl, inr}
use mathlib.Core.List.{List}
use Prim.Native.Nat.{ℕ, ◌+◌, ◌-◌, ◌*◌, ◌≤◌, ◌<◌}
use native.Mathlib.Omega.{arith}
use lib.ListN.{length}
use Rattle.book.specs.Records.{field}
use Rattle.machine.specs.declared.Ending.{Ending}
use Rattle.machine.specs.Machine.{Thread}
use Rattle.words.specs.Words.{term_word}
use Rattle.branch.specs.declared.Back.{Back}
use Rattle.seeking.specs.declared.Place.{Place}
use Rattle.std.proofs.Common.{Option, Some, None}
use Rattle.branch.specs.State.{put_cell}
use Rattle.branch.specs.Alternatives.{keep_words}
use Rattle.seeking.specs.Memo.{Memo, MemoOnly, MemoStays}
use Rattle.branch.proofs.StateLaws.{branch_agree, sound_agree, waiting_agree}
use Rattle.branch.proofs.TakeLaws.{put_outside}
use Rattle.branch.proofs.KeepLaws.{kept_outside}
use Rattle.seeking.proofs.MemoLaws.{memo_kept, memo_less, memo_put, tops_only}
use Rattle.following.specs.declared.Followed.{Followed}
use Rattle.steps.specs.declared.Branch.{Branch as Held}
use Rattle.steps.specs.declared.Regs.{Regs}
use Rattle.steps.specs.declared.Stepped.{Stepped}
use Rattle.steps.specs.Search.{back_regs, Stands, Stands.goal_in_hand, Stands.going_back, StepGives, StepGives.steps_on, StepGives.steps_end}
use Rattle.steps.proofs.LeaveLaws.{leaves_trans, leaves_only}
use Rattle.returning.specs.declared.Reached.{Reached}
use Rattle.returning.specs.declared.Reached.TheVariants.{Onward, Finished}
use Rattle.returning.specs.Reaching.{ReachGives, ReachGives.reach_on, ReachGives.reach_end, ReachGives.reach_clause, MemoReached}
use Rattle.returning.proofs.MemoFrames.{clause_only}
use Rattle.taking.specs.declared.Cell.{Cell}
use Rattle.taking.specs.Takes.{Room, in_hand, and_words, and_regs, or_kept, or_words, or_regs, put_program, suppose_words, suppose_regs, atom_kept, atom_reached, AtomTaken, plain_words, plain_regs}
use Rattle.taking.proofs.HandLaws.{put_program_outside, program_mark}

-- NOTHING BUT THE MEMO DIFFERS
pub stands_only : {book ws ws' : List ℕ} {r : Regs} {threads : List Thread} → MemoOnly ws ws' → Stands book ws r threads → Stands book ws' r threads
stands_only O (goal_in_hand {held = held} {b = b} {threads = threads} e S B W) = let A = tops_only S O in goal_in_hand {held = held} {b = b} {threads = threads} e (sound_agree A S) (branch_agree A B) (waiting_agree A S W)
stands_only O (going_back e S W) = let A = tops_only S O in going_back e (sound_agree A S) (waiting_agree A S W)

step_only : {book ws₀ ws ws' : List ℕ} {r : Regs} {left : ℕ} {threads : List Thread} {s : Stepped} → MemoOnly ws ws' → StepGives book ws₀ ws r left threads s → StepGives book ws₀ ws' r left threads s
step_only O (steps_on {r' = r'} {used = used} {threads' = threads'} a b l s q) = steps_on {r' = r'} {used = used} {threads' = threads'} a b (leaves_trans l (leaves_only O)) (stands_only O s) q
step_only O (steps_end {e = e} {used = used} a l q) = steps_end {e = e} {used = used} a (O.below.size ∙ l) q

pub reach_only : {book ws₀ ws ws' : List ℕ} {r : Regs} {left : ℕ} {threads : List Thread} {o : Reached} → MemoOnly ws ws' → ReachGives book ws₀ ws r left threads o → ReachGives book ws₀ ws' r left threads o
reach_only O (reach_on g) = reach_on (step_only O g)
reach_only O (reach_end g) = reach_end (step_only O g)
reach_only O (reach_clause {x = x} {k = k} {used = used} {threads' = threads'} a b l c p) =
    reach_clause {x = x} {k = k} {used = used} {threads' = threads'} a b (leaves_trans l (leaves_only O)) (clause_only O c) p

-- THE MEMO STAYS RIGHT with fewer units, and with a goal cell, an alternative, a program put
module _ {book ws : List ℕ} {programs left : ℕ} (M : Memo book ws programs left) where
  memo_cell : (c w p q : ℕ) → c < 1026 → Memo book (put_cell c w p q ws) programs left
  memo_cell c w p q h = memo_kept (put_outside 8200 (8200 + 3 * programs) c w p q ws (inl (omega arith))) (put_outside 13568 15616 c w p q ws (inl (omega arith))) (omega arith) (omega arith) M

  memo_alternative : (k : ℕ) (x : Back) → k < 512 → length ws ≡ 16384 → programs ≤ 514 → Memo book (keep_words ws k x) programs left
  memo_alternative k x h l few =
      memo_kept (kept_outside ws k x h l 8200 (8200 + 3 * programs) (inr (omega arith))) (kept_outside ws k x h l 13568 15616 (inl (omega arith))) (omega arith) (omega arith) M

  -- the units that are left are a new mark
  memo_program : (w q : ℕ) → length ws ≡ 16384 → programs < 514 → 0 < left → Memo book (put_program programs w q left ws) (programs + 1) (left - 1)
  memo_program w q l few some =
      memo_put (put_program_outside 8200 (8200 + 3 * programs) programs w q left ws (inr (omega arith))) (put_program_outside 13568 15616 programs w q left ws (inl (omega arith)))
      (program_mark programs w q left ws (omega arith)) some M

-- WHERE TAKING A GOAL HAS COME TO
pub memo_ended : (book ws : List ℕ) (left : ℕ) (e : Ending) (used : ℕ) → MemoReached book ws left (Finished e used)
unfolding MemoReached
memo_ended book ws left e used = tt

module _ (book ws : List ℕ) (r : Regs) (held : Held) (x : Cell) (left : ℕ) (M : Memo book ws r.programs left) where
  by_candidate : (ws' : List ℕ) → Memo book ws' r.programs left → (o : Option Place) → MemoReached book ws' left (atom_reached r held x o)
  unfolding MemoReached atom_reached atom_kept back_regs
  by_candidate ws' N (Some p) = memo_less (omega arith) (omega arith) N
  by_candidate ws' N None = memo_less (omega arith) (omega arith) N

  pub memo_atom : (ws' : List ℕ) (o : Reached) → AtomTaken book ws r held x o → MemoStays book r.programs ws ws' → MemoReached book ws' left o
  memo_atom ws' o T S = rw T.is (by_candidate ws' (S.1 left M) T.candidate)

  module _ (R : Room ws r held x) (ws' : List ℕ) (y : Regs) where
    pub memo_and : ws' ≡ and_words book r x ws → y ≡ and_regs r held → MemoReached book ws' left (Onward 1 y)
    unfolding MemoReached and_words and_regs in_hand
    memo_and e d = rw (e, d) (memo_less (omega arith) (omega arith) (memo_cell (memo_cell M r.cells _ _ _ (omega (arith, R.1.2))) (r.cells + 1) _ _ _ R.1.2))

    pub memo_or : ws' ≡ or_words book r held x ws → y ≡ or_regs r held → MemoReached book ws' left (Onward 1 y)
    unfolding MemoReached or_words or_regs in_hand
    memo_or e d =
        let w = term_word (field book x.goal 2) x.base in
        let size : length (put_cell r.cells w x.program x.next ws) ≡ 16384 = (put_outside 0 0 r.cells w x.program x.next ws (inr (omega arith))).size ∙ R.1.6 in
        let one = memo_cell M r.cells w x.program x.next (omega (arith, R.1.2)) in
        let two = memo_alternative one r.alternatives (or_kept r held) R.1.4 size (omega (arith, R.1.3)) in
        rw (e, d) (memo_less (omega arith) (omega arith) (memo_cell two (r.cells + 1) _ _ _ R.1.2))

    pub memo_suppose : 0 < left → ws' ≡ suppose_words book r x left ws → y ≡ suppose_regs r held → MemoReached book ws' left (Onward 1 y)
    unfolding MemoReached suppose_words suppose_regs in_hand
    memo_suppose h e d = rw (e, d) (memo_cell (memo_program M (term_word x.goal x.base) x.program R.1.6 R.1.3 h) r.cells _ _ _ (omega (arith, R.1.2)))

    pub memo_plain : (p : Followed) → ws' ≡ plain_words r x p ws → y ≡ plain_regs r held p → MemoReached book ws' left (Onward (2 * p.rules) y)
    unfolding MemoReached plain_words plain_regs
    memo_plain p e d = rw (e, d) (memo_less (omega arith) (omega arith) (memo_cell M r.cells _ _ _ (omega (arith, R.1.2))))
