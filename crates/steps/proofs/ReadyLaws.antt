-- The clause of an alternative can be entered.
use mathlib.Core.Path.{◌≡◌}
use mathlib.Core.Logic.{inr}
use mathlib.Core.Bool.{true}
use mathlib.Core.List.{List}
use Prim.Native.Nat.{ℕ, ◌+◌, ◌≤◌, ◌<◌}
use native.Mathlib.Omega.{arith}
use lib.Dec.{eqb}
use Rattle.book.specs.Records.{field, records}
use Rattle.book.specs.Kinds.{Kind, kind_at, kind_of, atom_kind, clause_kind}
use Rattle.book.specs.Scoped.{ScopedClause, ScopedTexts, ScopedTies, ScopedBody}
use Rattle.book.specs.Decode.{clause_of, goal_of, arguments_of, ties_from, body_by}
use Rattle.book.proofs.Accepted.{Accepted}
use Rattle.book.proofs.KindLaws.{KindSays, kind_says}
use Rattle.book.proofs.Tests.{and_true, eqb_says}
use Rattle.book.proofs.Pointers.{clause_fields, clause_head}
use Rattle.book.proofs.Unfolding.{clause_of_lem, goal_atom}
use Rattle.words.specs.Readable.{HasArguments}
use Rattle.words.specs.Good.{Slots}
use Rattle.words.specs.Frame.{TrailFits}
use Rattle.words.proofs.ReadLaws.{in_book}
use Rattle.words.proofs.FromAccepted.{readable}
use Rattle.branch.specs.State.{GoalHere}
use Rattle.index.specs.Runs.{head_matches}
use Rattle.branch.proofs.FromScoped.{run_of_lem, tie_run_lem}
use Rattle.steps.specs.Enters.{head_of, EnterReady}

pub has_atom : (book : List ℕ) (r : ℕ) → r < records book → kind_at book r ≡ atom_kind → HasArguments book r
unfolding kind_at
has_atom book r h k = (h, inr (says (kind_of (field book r 0)) k (kind_says (field book r 0))))
  where
    says : (K : Kind) → K ≡ atom_kind → KindSays (field book r 0) K → field book r 0 ≡ 4
    says K e s = rw e at s

module _ (book : List ℕ) (A : Accepted book) (made trail : ℕ) (ws : List ℕ) (a e c o n : ℕ) (S : Slots book made ws) (T : TrailFits made trail ws)
    (ak : kind_at book a ≡ atom_kind) (ah : GoalHere book made a e) (ee : e < 4096) (ci : c < records book) (ck : kind_at book c ≡ clause_kind) (cs : ScopedClause n (clause_of book c)) (co : o + n ≤ made)
    (m : head_matches book (field book a 1) (field book a 2) c ≡ true) (room : made + field book c 1 ≤ 2048) where
  counts_same : field book a 2 ≡ field book (head_of book c) 2
  unfolding head_matches
  counts_same = eqb_says _ _ (and_true (eqb (field book a 1) (field book (field book c 4) 1)) (eqb (field book a 2) (field book (field book c 4) 2)) m).1

  scoped_parts : ScopedTies (field book c 1) n (ties_from book (field book c 2) (field book c 3)) × ScopedTexts (field book c 1) (arguments_of book (field book c 4)) × ScopedBody (field book c 1) (body_by (goal_of book) (field book c 5) (field book c 6))
  scoped_parts = rw (clause_of_lem book A.formed c ci ck) at cs

  atom_scoped : ScopedTexts ah.holder (arguments_of book a)
  atom_scoped = rw (goal_atom book A.formed a ah.inside ak) at ah.scoped

  pub enter_ready : EnterReady book made trail ws a e c o
  enter_ready =
      let R = readable book A in
      let f = clause_fields book A.formed.fields c ci ck in
      let h = clause_head book A.formed c ci ck in
      let s = scoped_parts in
      record {
        slots = S;
        fits = T;
        atom = has_atom book a ah.inside ak;
        base = ee;
        clause = ci;
        head = has_atom book (head_of book c) (omega (arith, h.0)) h.1;
        counts = counts_same;
        room = room;
        ties_some = f.1;
        ties = tie_run_lem book made (field book c 1) o n (field book c 2) (field book c 3) (omega (arith, f.2)) co s.0;
        below = run_of_lem book R ah.holder e (made + field book c 1) a (has_atom book a ah.inside ak) (omega (arith, ah.room)) atom_scoped;
        head_below = run_of_lem book R (field book c 1) made (made + field book c 1) (head_of book c) (has_atom book (head_of book c) (omega (arith, h.0)) h.1) (omega arith) s.1;
        tie_first = omega (arith, f.2, in_book book R c ci);
      }
