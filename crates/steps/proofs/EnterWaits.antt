-- Entering a clause and unifying keeps the alternatives.
use mathlib.Core.Path.{refl}
use mathlib.Core.List.{List}
use Prim.Native.Nat.{ℕ, ◌+◌, ◌≤◌, ◌<◌}
use native.Mathlib.Omega.{arith}
use native.Mathlib.Nat.{le_trans}
use native.Mathlib.Decide.{dec_lt}
use lib.ListN.{get_or}
use Rattle.book.specs.Records.{field}
use Rattle.machine.specs.Machine.{Thread}
use Rattle.words.proofs.StackLaws.{keeps_narrow}
use Rattle.words.proofs.FrameLaws.{fits_most}
use Rattle.unifier.specs.declared.Unified.{Unified}
use Rattle.branch.specs.State.{Tops, Sound, Waiting, Agree}
use Rattle.branch.proofs.StateLaws.{waiting_agree, waiting_raised, waiting_bound, with_trail}
use Rattle.steps.specs.Enters.{Enters}

abbrev pub with_made : Tops → ℕ → Tops
with_made t n = record { made = n; trail = t.trail; cells = t.cells; programs = t.programs; alternatives = t.alternatives }

module _ (book : List ℕ) (t : Tops) (ws ws' : List ℕ) (a e c o left : ℕ) (r : Unified) (S : Sound book ws t) (E : Enters book t.made t.trail ws ws' a e c o left r) where
  trail_room : t.trail ≤ 2048
  trail_room = fits_most t.made t.trail ws S.slots.room S.fits

  mid_agree : Agree t ws E.mid
  mid_agree = record {
    slots = E.below;
    trail = keeps_narrow (omega arith) (omega (arith, trail_room)) E.above;
    cells = keeps_narrow (omega arith) (omega (arith, S.cells_most)) E.above;
    programs = keeps_narrow (omega arith) (omega (arith, S.programs_most)) E.above;
    alternatives = keeps_narrow (omega arith) (omega (arith, S.alternatives_most)) E.above;
  }

  abbrev pub tops_mid : Tops
  tops_mid = with_made t (t.made + field book c 1)

  mid_sound : Sound book E.mid tops_mid
  mid_sound = record {
    slots = E.slots;
    fits = E.fits;
    unknowns = le_trans S.unknowns (omega arith);
    cells_some = S.cells_some;
    programs_some = S.programs_some;
    cells_most = S.cells_most;
    programs_most = S.programs_most;
    alternatives_most = S.alternatives_most;
    small = λ k l. rw (mid_agree.trail.same (2048 + k) (omega arith) (omega arith)) (S.small k l);
  }

  -- after unifying, however it ended
  abbrev pub tops_after : Tops
  tops_after = with_trail tops_mid r.trail

  pub enters_sound : Sound book ws' tops_after
  enters_sound = record {
    slots = E.ends.slots;
    fits = E.ends.fits;
    unknowns = le_trans S.unknowns (omega arith);
    cells_some = S.cells_some;
    programs_some = S.programs_some;
    cells_most = S.cells_most;
    programs_most = S.programs_most;
    alternatives_most = S.alternatives_most;
    small = λ k l. part k l (dec_lt k t.trail);
  }
    where
      part : (k : ℕ) → k < r.trail → Dec (k < t.trail) → get_or ws' (2048 + k) 0 < 2048
      part k l (yes h) = rw (E.ends.changed.bound.trail k h) (mid_sound.small k h)
      part k l (no h) = E.ends.changed.bound.small k (omega arith) (omega (arith, E.ends.changed.grown))

  pub waiting_enters : {threads : List Thread} → Waiting book ws t threads → Waiting book ws' tops_after threads
  waiting_enters W =
      waiting_bound tops_mid E.mid ws' r.trail mid_sound E.ends.changed.grown E.ends.changed.most E.ends.changed.keeps E.ends.changed.bound
      (waiting_raised {u = tops_mid} (omega arith, refl, omega arith, omega arith, refl) (waiting_agree mid_agree S W))
