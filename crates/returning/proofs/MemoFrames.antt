-- Nothing but the memo differs: what the search along the programs leaves as it was.
use mathlib.Core.Path.{◌≡◌}
use mathlib.Core.List.{List}
use Rattle.std.specs.Prelude.{Option}
use Prim.Native.Nat.{ℕ, ◌+◌, ◌-◌, ◌*◌, ◌≤◌}
use native.Mathlib.Omega.{arith}
use Rattle.machine.specs.declared.Ending.{Ending}
use Rattle.machine.specs.Machine.{Thread, Branch}
use Rattle.words.specs.Frame.{Keeps}
use Rattle.words.proofs.StackLaws.{keeps_narrow, store_same}
use Rattle.seeking.proofs.SeekChain.{all_same}
use Rattle.branch.specs.declared.Back.{Back}
use Rattle.seeking.specs.declared.Place.{Place}
use Rattle.branch.specs.State.{OwnReady}
use Rattle.seeking.specs.Seeking.{AllIndexed}
use Rattle.seeking.specs.Memo.{MemoOnly}
use Rattle.branch.proofs.StateLaws.{sound_agree, branch_agree, waiting_agree, rest_agree}
use Rattle.seeking.proofs.MemoLaws.{keeps_back, rest_keeps, sought_keeps, memo_less, tops_only}
use Rattle.steps.specs.declared.Stepped.{Stepped}
use Rattle.steps.specs.declared.Stepped.TheVariants.{Onward, Finished}
use Rattle.steps.specs.Search.{MemoStepped}
use Rattle.steps.proofs.LeaveLaws.{leaves_only}
use Rattle.returning.specs.Returns.{Again, ToClause}
use Rattle.returning.specs.Passing.{FirstIs, NextIs, later_by}

module _ {book ws ws' : List ℕ} (O : MemoOnly ws ws') where
  pub indexed_only : OwnReady book 0 → AllIndexed book ws → AllIndexed book ws'
  indexed_only R I = all_same book R (leaves_only O).index (leaves_only O).free I

  pub again_only : {k : ℕ} {x : Back} {b : Branch} {ts : List Thread} → Again book ws k x b ts → Again book ws' k x b ts
  again_only G =
      let A = tops_only G.sound O in
      record {
        supposed = G.supposed;
        flagged = G.flagged;
        sound = sound_agree A G.sound;
        there = branch_agree A G.there;
        waiting = waiting_agree A G.sound G.waiting;
        few = G.few;
      }

  pub clause_only : {k : ℕ} {x : Back} {threads : List Thread} → ToClause book ws k x threads → ToClause book ws' k x threads
  clause_only {k} {x} X =
      let A = tops_only X.again.sound O in
      let W = X.with in
      record {
        b = X.b;
        ts = X.ts;
        a = X.a;
        e = X.e;
        program = X.program;
        f = X.f;
        after = X.after;
        again = again_only X.again;
        with = record {
          atom = W.atom;
          base = W.base;
          kind = W.kind;
          here = W.here;
          called = W.called;
          program_is = rest_agree A (omega arith) W.program_is;
          clause = (rest_agree A (omega arith) W.clause.0, rest_agree A (omega arith) W.clause.1);
          first = W.first;
          room = W.room;
          most = W.most;
        };
        is = X.is;
      }

  pub first_only : {made a e w : ℕ} → made ≤ 2048 → FirstIs book ws made a e w → FirstIs book ws' made a e w
  first_only {made} h F =
      let s = store_same book made 13568 (omega arith) O.below in
      record { some = F.some; read = record { walked = rw s F.read.walked; good = F.read.good; unbound = λ l. absurd (omega (arith, F.large)) }; large = F.large }

  -- the candidate after the next one is the same, whichever of the two the search has looked at
  pub next_only : (x : Back) {o : Option Place} → x.programs ≤ 514 → NextIs book ws x o → NextIs book ws' x o
  next_only x h N rest r =
      let K : Keeps 8200 (8200 + 3 * x.programs) ws ws' = keeps_narrow (omega arith) (omega arith) O.below in
      sought_keeps K (N rest (rest_keeps (keeps_back K) r))

-- a step that came after so many units
pub memo_later : (book ws : List ℕ) (left used : ℕ) (s t : Stepped) → t ≡ later_by used s → MemoStepped book ws (left - used) s → MemoStepped book ws left t
unfolding MemoStepped later_by
memo_later book ws left used s t e M = rw e (go s M)
  where
    go : (s : Stepped) → MemoStepped book ws (left - used) s → MemoStepped book ws left (later_by used s)
    go (Onward n r) M = memo_less (omega arith) (omega arith) M
    go (Finished d n) M = tt

-- a step that ended leaves nothing to remember
pub memo_ended : (book ws : List ℕ) (left used : ℕ) (e : Ending) → MemoStepped book ws left (Finished e used)
unfolding MemoStepped
memo_ended book ws left used e = tt
