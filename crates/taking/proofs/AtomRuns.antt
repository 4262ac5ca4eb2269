-- Taking an atom: the search for its first candidate, and what is kept.
use mathlib.Core.Path.{◌≡◌, refl}
use mathlib.Core.List.{List, [], ◌∷◌}
use Prim.Native.Nat.{ℕ, ◌<◌}
use native.Mathlib.Omega.{arith}
use Rattle.book.specs.Records.{field}
use Rattle.book.specs.Kinds.{kind_at, atom_kind}
use Rattle.book.proofs.Accepted.{Formed}
use Rattle.machine.specs.Machine.{Thread, solving, entering, Branch, Force, candidates, try_all, took}
use Rattle.seeking.specs.declared.Place.{Place}
use Rattle.std.proofs.Common.{Option, Some, None}
use Rattle.branch.specs.declared.Back.{Back}
use Rattle.branch.specs.State.{IsClause, IsProgram}
use Rattle.seeking.specs.Seeking.{Sought, Sought.sought, Sought.no_more}
use Rattle.branch.proofs.KeepLaws.{atom_unit, atom_branch}
use Rattle.branch.proofs.TakeLaws.{CellAt}
use Rattle.steps.specs.declared.Branch.{Branch as Held}
use Rattle.steps.specs.declared.Regs.{Regs}
use Rattle.steps.specs.declared.Stepped.TheVariants.{Onward}
use Rattle.steps.proofs.LeaveLaws.{leaves_none}
use Rattle.steps.specs.Search.{tops_of, back_regs, Stands.going_back, StepGives, StepGives.steps_on}
use Rattle.steps.proofs.RunLaws.{unit_gives}
use Rattle.taking.specs.declared.Cell.{Cell}
use Rattle.returning.specs.declared.Reached.{Reached}
use Rattle.returning.specs.declared.Reached.TheVariants.{Onward as ReachedOn, Clause}
use Rattle.returning.specs.Returns.{atom_of, ToClause}
use Rattle.returning.specs.Reaching.{ReachGives, ReachGives.reach_on, ReachGives.reach_clause}
use Rattle.taking.specs.Takes.{atom_kept, atom_reached, AtomTaken}
use Rattle.taking.proofs.HandLaws.{Hand}
use Rattle.taking.proofs.TakeRuns.{cell_here}

-- WHAT THE CODE FINDS
module _ (book ws : List ℕ) (r : Regs) (held : Held) (x : Cell) (f m : ℕ) (o : Option Place) (fe : f ≡ field book x.goal 1) (me : m ≡ field book x.goal 2)
    (S : (program : List Force) → IsProgram book ws r.made r.programs x.program program → Sought book ws r.made r.programs f m program o) where
  found_here : (program : List Force) → IsProgram book ws r.made r.programs x.program program
      → Sought book ws r.made r.programs (field book x.goal 1) (field book x.goal 2) program o
  found_here program P = rw (fe, me) at (S program P)

  pub atom_at : (p : Place) (y : Back) → o ≡ Some p → y ≡ atom_kept r held x p.program p.clause → AtomTaken book ws r held x (Clause 1 y r.alternatives)
  unfolding atom_reached
  atom_at p y e z = record { candidate = o; found = found_here; is = rw (e, z) refl }

  pub atom_none : (y : Regs) → o ≡ None → y ≡ back_regs r → AtomTaken book ws r held x (ReachedOn 1 y)
  unfolding atom_reached
  atom_none y e z = record { candidate = o; found = found_here; is = rw (e, z) refl }

-- WHAT IT STANDS FOR
module _ (book : List ℕ) (F : Formed book) (ws : List ℕ) (r : Regs) (held : Held) (left : ℕ) (x : Branch) (threads : List Thread) (h : 0 < left)
    (H : Hand book ws (tops_of r) held.cell held.taken held.supposed x threads) (X : CellAt book ws r.made r.cells r.programs held.cell x.goals)
    (l : held.taken < 512) (k : kind_at book X.g ≡ atom_kind) where
  abbrev here : Cell
  here = cell_here book F ws r held left x threads h H X

  atom_fails : candidates (field book X.g 1) (field book X.g 2) X.program ≡ [] → StepGives book ws ws r left (solving x ∷ threads) (Onward 1 (back_regs r))
  unfolding back_regs try_all
  atom_fails e =
      steps_on {r' = back_regs r} {used = 1} h (omega arith) (leaves_none ws) (going_back refl H.sound H.waiting)
      (unit_gives left (solving x) threads h [] (atom_unit book F (tops_of r) ws held.cell held.taken held.supposed x H.sound H.branch X k l [] e))

  atom_clause : (q i : ℕ) (f : Force) (after : List Force) → IsClause book ws r.made r.programs q i f after
      → candidates (field book X.g 1) (field book X.g 2) (f ∷ after) ≡ f ∷ candidates (field book X.g 1) (field book X.g 2) after
      → ToClause book ws r.alternatives (atom_kept r held here q i) (entering (took x X.gs) (atom_of book X.g X.b X.program) f (candidates (field book X.g 1) (field book X.g 2) after) ∷ threads)
  unfolding atom_kept
  atom_clause q i f after a b =
      let S = H.sound in
      record {
        b = took x X.gs;
        ts = threads;
        a = X.g;
        e = X.b;
        program = X.program;
        f = f;
        after = after;
        again = record {
          supposed = held.supposed;
          flagged = refl;
          sound = S;
          there = atom_branch book F (tops_of r) ws held.cell held.taken held.supposed x S H.branch X k l;
          waiting = H.waiting;
          few = omega (arith, H.branch.alternatives_few);
        };
        with = record {
          atom = refl;
          base = X.base;
          kind = k;
          here = X.here;
          called = omega (arith, X.program_below, S.programs_most);
          program_is = X.program_is;
          clause = a;
          first = b;
          room = omega (arith, H.branch.cells_few);
          most = omega arith;
        };
        is = refl;
      }

  by_candidate : (o : Option Place) → Sought book ws r.made r.programs (field book X.g 1) (field book X.g 2) X.program o
      → ReachGives book ws ws r left (solving x ∷ threads) (atom_reached r held here o)
  unfolding atom_reached try_all
  by_candidate (Some p) (sought {c = f} {after = after} a b c) =
      reach_clause {x = atom_kept r held here p.program p.clause} {k = r.alternatives} {used = 1} h (omega arith) (leaves_none ws) (atom_clause p.program p.clause f after a b)
      (unit_gives left (solving x) threads h _ (atom_unit book F (tops_of r) ws held.cell held.taken held.supposed x H.sound H.branch X k l _ c))
  by_candidate None (no_more c) = reach_on (atom_fails c)

  pub atom_steps : (y : Reached) → AtomTaken book ws r held here y → ReachGives book ws ws r left (solving x ∷ threads) y
  atom_steps y T = rw T.is (by_candidate T.candidate (T.found X.program X.program_is))
