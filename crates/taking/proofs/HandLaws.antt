-- A branch in hand with its alternatives, and what stays of it when goals, programs and alternatives are put above the tops.
use mathlib.Core.Path.{◌≡◌, refl, ◌∙◌}
use mathlib.Core.Logic.{◌⊎◌, inl, inr}
use mathlib.Core.Bool.{Bool}
use mathlib.Core.List.{List, ◌∷◌}
use Prim.Native.Nat.{ℕ, ◌+◌, ◌*◌, ◌≤◌, ◌<◌}
use native.Mathlib.Omega.{arith}
use native.Mathlib.Nat.{add-zero, sub-zero}
use lib.ListN.{length, set, length-set}
use lib.Seq.{get_or-set_same, get_or-set_other}
use Rattle.book.specs.Records.{field}
use Rattle.book.specs.Kinds.{kind_at, suppose_kind}
use Rattle.book.specs.Decode.{goal_of, clauses_of}
use Rattle.machine.specs.Machine.{Force, Todo, Branch, Thread, solving, added, todo}
use Rattle.words.specs.Words.{term_word}
use Rattle.words.specs.Frame.{Keeps}
use Rattle.words.proofs.StackLaws.{keeps_trans, keeps_set}
use Rattle.words.proofs.FrameLaws.{fits_most}
use Rattle.branch.specs.declared.Back.{Back}
use Rattle.branch.specs.State.{rest_of, run_of_suppose, Tops, GoalHere, IsRest.put_rest, IsProgram, IsBranch, Sound, Alternative.other_goal, Waiting, Agree, put_cell, flag}
use Rattle.branch.specs.Alternatives.{keep_words}
use Rattle.seeking.specs.Memo.{mark_of}
use Rattle.branch.proofs.StateLaws.{rest_agree, rest_more, goals_more, goals_push, branch_agree, sound_agree, waiting_agree, waiting_raised, waiting_push}
use Rattle.branch.proofs.TakeLaws.{cell_agree, cell_word}
use Rattle.branch.proofs.KeepLaws.{keep_agree, kept_0, kept_1, kept_2, kept_3}
use Rattle.steps.specs.Search.{Leaves}
use Rattle.taking.specs.Takes.{put_program}

-- the branch from cell c, with n goals taken, and the alternatives
pub record Hand (book ws : List ℕ) (t : Tops) (c n : ℕ) (s : Bool) (y : Branch) (threads : List Thread) : Type 0 where
  pub sound : Sound book ws t
  pub branch : IsBranch book ws t c n s y
  pub waiting : Waiting book ws t threads

-- more cells and programs in use
abbrev pub raised : Tops → ℕ → ℕ → Tops
raised t cells programs = record { made = t.made; trail = t.trail; cells = cells; programs = programs; alternatives = t.alternatives }

module _ {book ws : List ℕ} {t : Tops} {c n : ℕ} {s : Bool} {y : Branch} {threads : List Thread} (H : Hand book ws t c n s y threads) where
  pub trail_room : t.trail ≤ 2048
  trail_room = fits_most t.made t.trail ws H.sound.slots.room H.sound.fits

  pub hand_agree : {ws' : List ℕ} → Agree t ws ws' → Hand book ws' t c n s y threads
  hand_agree A = record { sound = sound_agree A H.sound; branch = branch_agree A H.branch; waiting = waiting_agree A H.sound H.waiting }

  pub hand_raised : (cells programs : ℕ) → t.cells ≤ cells → t.programs ≤ programs → cells ≤ 2 * n + 2 → programs ≤ n + 1 → n ≤ 512 → Hand book ws (raised t cells programs) c n s y threads
  hand_raised cells programs a b d e m =
      let S = H.sound in
      let B = H.branch in
      record {
        sound = record {
          slots = S.slots;
          fits = S.fits;
          unknowns = S.unknowns;
          cells_some = omega (arith, S.cells_some);
          programs_some = omega (arith, S.programs_some);
          cells_most = omega arith;
          programs_most = omega arith;
          alternatives_most = S.alternatives_most;
          small = S.small;
        };
        branch = record {
          goals = goals_more (omega arith) a b B.goals;
          store = B.store;
          taken_same = B.taken_same;
          supposed_same = B.supposed_same;
          cells_few = d;
          programs_few = e;
          alternatives_few = B.alternatives_few;
        };
        waiting = waiting_raised {u = raised t cells programs} (omega arith, refl, a, b, refl) H.waiting;
      }

-- PUTTING A GOAL before the list, in the next cell
abbrev pub with_goal : Todo → Branch → Branch
with_goal g y = record { goals = g ∷ y.goals; store = y.store; taken = y.taken; supposed = y.supposed }

module _ {book ws : List ℕ} {t : Tops} {q n : ℕ} {s : Bool} {y : Branch} {threads : List Thread} (H : Hand book ws t q n s y threads) (g b p : ℕ) (program : List Force)
    (G : GoalHere book t.made g b) (base : b < 4096) (P : IsProgram book ws t.made t.programs p program) (below : p < t.programs) (falls : q < t.cells)
    (few : t.cells + 1 ≤ 2 * n + 2) (most : n ≤ 512) where
  abbrev pub goal_put : List ℕ
  goal_put = put_cell t.cells (term_word g b) p q ws

  goal_agree : Agree t ws goal_put
  goal_agree = cell_agree t t.cells (term_word g b) p q ws H.sound.slots.room (trail_room H) (omega arith) (omega arith)

  -- the answer writer's words are as they were
  -- the program, and the list without the goal, are still there
  pub goal_program : IsProgram book goal_put t.made t.programs p program
  goal_program = rest_agree goal_agree (omega arith) P

  pub goal_rest : Hand book goal_put (raised t (t.cells + 1) t.programs) q n s y threads
  goal_rest = hand_raised (hand_agree H goal_agree) (t.cells + 1) t.programs (omega arith) (omega arith) few H.branch.programs_few most

  pub goal_hand : Hand book goal_put (raised t (t.cells + 1) t.programs) t.cells n s (with_goal (todo (goal_of book g) b program) y) threads
  goal_hand =
      let w = cell_word t.cells (term_word g b) p q ws (omega (arith, H.sound.slots.size)) in
      let R = goal_rest in
      record {
        sound = R.sound;
        branch = record {
          goals = goals_push t ws goal_put goal_agree g b p q G base H.sound.cells_some falls below w.0 w.1 P H.branch.goals;
          store = R.branch.store;
          taken_same = R.branch.taken_same;
          supposed_same = R.branch.supposed_same;
          cells_few = R.branch.cells_few;
          programs_few = R.branch.programs_few;
          alternatives_few = R.branch.alternatives_few;
        };
        waiting = R.waiting;
      }

-- PUTTING A PROGRAM leaves alone what lies outside its three words
pub put_program_outside : (lo hi p w q mark : ℕ) (ws : List ℕ) → (8200 + 3 * p + 2 < lo) ⊎ (hi ≤ 8200 + 3 * p) → Keeps lo hi ws (put_program p w q mark ws)
unfolding put_program
put_program_outside lo hi p w q mark ws (inl h) =
    keeps_trans (keeps_set lo hi ws (8200 + 3 * p) w (inl (omega arith)))
    (keeps_trans (keeps_set lo hi (set ws (8200 + 3 * p) w) (8200 + 3 * p + 1) q (inl (omega arith)))
    (keeps_set lo hi (set (set ws (8200 + 3 * p) w) (8200 + 3 * p + 1) q) (8200 + 3 * p + 2) mark (inl h)))
put_program_outside lo hi p w q mark ws (inr h) =
    keeps_trans (keeps_set lo hi ws (8200 + 3 * p) w (inr h))
    (keeps_trans (keeps_set lo hi (set ws (8200 + 3 * p) w) (8200 + 3 * p + 1) q (inr (omega arith)))
    (keeps_set lo hi (set (set ws (8200 + 3 * p) w) (8200 + 3 * p + 1) q) (8200 + 3 * p + 2) mark (inr (omega arith))))

pub leaves_program : (p w q mark : ℕ) (ws : List ℕ) → p < 514 → Leaves ws (put_program p w q mark ws)
leaves_program p w q mark ws h = record {
  index = put_program_outside 4096 6144 p w q mark ws (inr (omega arith));
  free = put_program_outside 12304 13328 p w q mark ws (inl (omega arith));
}

-- and its third word is its mark
pub program_mark : (p w q mark : ℕ) (ws : List ℕ) → 8200 + 3 * p + 2 < length ws → mark_of (put_program p w q mark ws) p ≡ mark
unfolding put_program
program_mark p w q mark ws h =
    let first = set ws (8200 + 3 * p) w in
    get_or-set_same (set first (8200 + 3 * p + 1) q) (8200 + 3 * p + 2) mark 0 (rw (length-set first (8200 + 3 * p + 1) q, length-set ws (8200 + 3 * p) w) h)

-- PUTTING A PROGRAM: the clauses of suppose goal g before program p
module _ {book ws : List ℕ} {t : Tops} {q n : ℕ} {s : Bool} {y : Branch} {threads : List Thread} (H : Hand book ws t q n s y threads) (g b p mark : ℕ) (program : List Force)
    (k : kind_at book g ≡ suppose_kind) (G : GoalHere book t.made g b) (base : b < 4096) (P : IsProgram book ws t.made t.programs p program) (below : p < t.programs)
    (few : t.programs + 1 ≤ n + 1) (most : n ≤ 512) where
  abbrev pub program_put : List ℕ
  program_put = put_program t.programs (term_word g b) p mark ws

  program_outside : (lo hi : ℕ) → (8200 + 3 * t.programs + 2 < lo) ⊎ (hi ≤ 8200 + 3 * t.programs) → Keeps lo hi ws program_put
  program_outside lo hi h = put_program_outside lo hi t.programs (term_word g b) p mark ws h

  program_agree : Agree t ws program_put
  program_agree = record {
    slots = program_outside 0 t.made (inr (omega (arith, H.sound.slots.room)));
    trail = program_outside 2048 (2048 + t.trail) (inr (omega (arith, trail_room H)));
    cells = program_outside 6144 (6144 + 2 * t.cells) (inr (omega (arith, H.sound.cells_most)));
    programs = program_outside 8200 (8200 + 3 * t.programs) (inr (omega arith));
    alternatives = program_outside 9744 (9744 + 5 * t.alternatives) (inl (omega arith));
  }

  pub program_hand : Hand book program_put (raised t t.cells (t.programs + 1)) q n s y threads
  program_hand = hand_raised (hand_agree H program_agree) t.cells (t.programs + 1) (omega arith) (omega arith) H.branch.cells_few few most

  pub program_is : IsProgram book program_put t.made (t.programs + 1) t.programs (added (clauses_of book (field book g 1) (field book g 2)) b program)
  unfolding put_program
  program_is =
      let room : 8200 + 3 * t.programs + 1 < length ws = omega (arith, H.sound.slots.size) in
      let first = set ws (8200 + 3 * t.programs) (term_word g b) in
      let second = set first (8200 + 3 * t.programs + 1) p in
      let R : IsProgram book program_put t.made (t.programs + 1) t.programs (rest_of book (run_of_suppose book g b) 0 program) = put_rest {p = t.programs} {i = 0} {q = p} {s = g} {b = b} {program = program} H.sound.programs_some (omega arith)
      (get_or-set_other second (8200 + 3 * t.programs + 2) (8200 + 3 * t.programs) mark 0 (λ e. omega arith) ∙ get_or-set_other first (8200 + 3 * t.programs + 1) (8200 + 3 * t.programs) p 0 (λ e. omega arith) ∙ get_or-set_same ws (8200 + 3 * t.programs) (term_word g b) 0 (omega arith))
      (get_or-set_other second (8200 + 3 * t.programs + 2) (8200 + 3 * t.programs + 1) mark 0 (λ e. omega arith) ∙ get_or-set_same first (8200 + 3 * t.programs + 1) p 0 (rw (length-set ws (8200 + 3 * t.programs) (term_word g b)) room)) below k G base (omega arith)
      (rest_more (omega arith) (omega arith) (rest_agree program_agree (omega arith) P)) in
      rw (add-zero (field book g 1), sub-zero (field book g 2)) at R

-- KEEPING THE BRANCH AS AN ALTERNATIVE, with another one in hand
module _ {book ws : List ℕ} {t : Tops} {c n : ℕ} {s : Bool} {y : Branch} {threads : List Thread} (H : Hand book ws t c n s y threads) (d : ℕ) (z : Branch) (Z : IsBranch book ws t d n s z)
    (few : t.alternatives < n) (most : n ≤ 512) where
  abbrev pub kept : Back
  kept = record
      { made = t.made; trail = t.trail; cells = t.cells; programs = t.programs; cell = c; taken = n; supposed = flag s; atom = 0; call = 0; node = 0; index = 0 }

  abbrev pub branch_kept : List ℕ
  branch_kept = keep_words ws t.alternatives kept

  pub kept_agree : Agree t ws branch_kept
  kept_agree = keep_agree ws t.alternatives kept (omega arith) H.sound.slots.size t refl H.sound.slots.room (trail_room H) H.sound.cells_most H.sound.programs_most

  abbrev pub one_more : Tops
  one_more = record { made = t.made; trail = t.trail; cells = t.cells; programs = t.programs; alternatives = t.alternatives + 1 }

  pub kept_hand : Hand book branch_kept one_more d n s z (solving y ∷ threads)
  kept_hand =
      let k : t.alternatives < 512 = omega arith in
      let size = H.sound.slots.size in
      let S = sound_agree kept_agree H.sound in
      let B = branch_agree kept_agree Z in
      record {
        sound = record {
          slots = S.slots;
          fits = S.fits;
          unknowns = S.unknowns;
          cells_some = S.cells_some;
          programs_some = S.programs_some;
          cells_most = S.cells_most;
          programs_most = S.programs_most;
          alternatives_most = omega arith;
          small = S.small;
        };
        branch = record {
          goals = B.goals;
          store = B.store;
          taken_same = B.taken_same;
          supposed_same = B.supposed_same;
          cells_few = B.cells_few;
          programs_few = B.programs_few;
          alternatives_few = omega arith;
        };
        waiting = waiting_raised {u = one_more} (omega arith, refl, omega arith, omega arith, omega arith)
            (waiting_push t ws branch_kept c n s y (solving y) kept_agree H.sound
            (record {
              counts = kept_0 ws t.alternatives kept k size;
              lists = kept_1 ws t.alternatives kept k size;
              branch = kept_2 ws t.alternatives kept k size;
              below = refl;
              few = few;
            })
            H.branch (other_goal (kept_3 ws t.alternatives kept k size)) H.waiting);
      }
