-- The alternative for the candidates after the one that is tried.
use mathlib.Core.Path.{◌≡◌, refl, ◌∙◌, ap}
use mathlib.Core.Logic.{inl, inr}
use mathlib.Core.List.{List, [], ◌∷◌}
use Rattle.std.specs.Prelude.{Option, Some, None}
use Prim.Native.Nat.{ℕ, suc, ◌+◌, ◌-◌, ◌*◌, ◌/◌, ◌%◌, ◌≤◌, ◌<◌}
use native.Mathlib.Omega.{arith}
use Rattle.book.specs.Records.{field, records}
use Rattle.book.proofs.Accepted.{Accepted}
use Rattle.machine.specs.Machine.{Thread, entering, Force, candidates, try_all}
use Rattle.words.specs.Readable.{Readable}
use Rattle.steps.proofs.ReadyLaws.{has_atom}
use Rattle.words.specs.Words.{rec_of, base_of}
use Rattle.words.proofs.PackLaws.{rec_pack, base_pack, pack_large}
use Rattle.words.proofs.StackLaws.{keeps_refl}
use Rattle.words.proofs.FrameLaws.{fits_most}
use Rattle.branch.specs.declared.Back.{Back}
use Rattle.seeking.specs.declared.Place.{Place}
use Rattle.branch.specs.State.{IsRest, IsRest.own_rest, IsRest.put_rest, IsClause, IsGoals, IsGoals.no_goals, IsGoals.goal_cell, Sound, Alternative.other_clause, Agree}
use Rattle.branch.specs.Alternatives.{keep_words}
use Rattle.seeking.specs.Seeking.{IsCandidate, Sought, Sought.sought, Sought.no_more}
use Rattle.branch.proofs.StateLaws.{rest_agree, waiting_push}
use Rattle.branch.proofs.KeepLaws.{kept_0, kept_1, kept_2, kept_3, kept_4, kept_outside, keep_agree, flag_small}
use Rattle.branch.proofs.FromScoped.{rest_number}
use Rattle.steps.proofs.LeaveLaws.{leaves_none, leaves_kept}
use Rattle.returning.specs.Returns.{tops_at, atom_of, ToClause}
use Rattle.returning.specs.Reentry.{moved, Renewed}
use Rattle.returning.specs.Passing.{NextIs}

-- a program of a place is below the top
pub rest_below : {book ws : List ℕ} {made top p i : ℕ} {l : List Force} → 1 ≤ top → IsRest book ws made top p i l → p < top
rest_below h (own_rest e m u) = omega arith
rest_below h (put_rest a c d e f g i j m r) = c

-- the first cell of a list is below the first free one
pub goals_below : {book ws : List ℕ} {made cells programs c : ℕ} {gs : _} → 1 ≤ cells → IsGoals book ws made cells programs c gs → c < cells
goals_below h (no_goals e) = omega arith
goals_below h (goal_cell a c d e f g i j m r) = c

module _ (book : List ℕ) (ws : List ℕ) (k : ℕ) (x : Back) (threads : List Thread) (X : ToClause book ws k x threads) where
  pub atom_large : 4096 ≤ x.atom
  atom_large = rw X.with.atom (pack_large X.a X.e)

  pub atom_record : x.atom / 4096 - 1 ≡ X.a
  unfolding rec_of
  atom_record = rw X.with.atom (rec_pack X.a X.e X.with.base)

  pub atom_base : x.atom % 4096 ≡ X.e
  unfolding base_of
  atom_base = rw X.with.atom (base_pack X.a X.e X.with.base)

  pub atom_inside : x.atom / 4096 - 1 < records book
  atom_inside = rw atom_record X.with.here.inside

  pub atom_few : Readable book → field book (x.atom / 4096 - 1) 2 ≤ 8
  atom_few R = rw atom_record (R.small X.a (has_atom book X.a X.with.here.inside X.with.kind))

  abbrev S : Sound book ws (tops_at x k)
  S = X.again.sound

  pub trail_room : x.trail ≤ 2048
  trail_room = fits_most x.made x.trail ws S.slots.room S.fits

  pub kept_below : k < 512
  kept_below = omega (arith, X.again.few, X.with.most)

  -- the place after the candidate that is tried
  pub standing : IsRest book ws x.made x.programs x.node (x.index + 1) X.after
  standing = let z : suc x.index ≡ x.index + 1 = omega arith in rw (← z) X.with.clause.1

  -- the numbers that are kept are small
  abbrev Small : ℕ → ℕ → Type 0
  Small q i =
      ((x.made < 4096) × (x.trail < 4096) × (x.cells < 4096) × (x.programs < 4096) × (x.cell < 4096) × (x.taken < 4096))
      × ((x.supposed < 256) × (x.call < 1024) × (q < 1024) × (i < 2048))

  keep_small : Accepted book → (q i : ℕ) {after : List Force} → IsRest book ws x.made x.programs q i after → Small q i
  keep_small A q i r = (
    (
      omega (arith, S.slots.room),
      omega (arith, trail_room),
      omega (arith, S.cells_most),
      omega (arith, S.programs_most),
      omega (arith, goals_below S.cells_some X.again.there.goals, S.cells_most),
      omega (arith, X.with.most),
    ),
    (
      rw X.again.flagged (flag_small X.again.supposed),
      X.with.called,
      omega (arith, rest_below S.programs_some r, S.programs_most),
      omega (arith, rest_number A r),
    ),
  )

  pub renew_drops : candidates (field book X.a 1) (field book X.a 2) X.after ≡ [] → Renewed book ws ws k x threads X k
  unfolding try_all
  renew_drops e = record
      { below = keeps_refl 0 (9744 + 5 * k) ws; memo = keeps_refl 13568 15616 ws; leaves = leaves_none ws; most = omega arith; waiting = rw e X.again.waiting }

  module _ (q i : ℕ) (f : Force) (after : List Force) (C : IsClause book ws x.made x.programs q i f after) where
    abbrev kk : k < 512
    kk = kept_below

    abbrev kept : List ℕ
    kept = keep_words ws k (moved x q i)

    agree : Agree (tops_at x k) ws kept
    agree = keep_agree ws k (moved x q i) kk S.slots.size (tops_at x k) refl S.slots.room trail_room S.cells_most S.programs_most

    pub renew_keeps : Accepted book → candidates (field book X.a 1) (field book X.a 2) (f ∷ after) ≡ f ∷ candidates (field book X.a 1) (field book X.a 2) after
        → candidates (field book X.a 1) (field book X.a 2) X.after ≡ f ∷ candidates (field book X.a 1) (field book X.a 2) after
        → Renewed book ws kept k x threads X (k + 1)
    unfolding try_all
    renew_keeps A e d =
        let W = waiting_push (tops_at x k) ws kept x.cell x.taken X.again.supposed X.b (entering X.b (atom_of book X.a X.e X.program) f (candidates (field book X.a 1) (field book X.a 2) after)) agree S
        (record {
          counts = rw (← X.again.flagged) (kept_0 ws k (moved x q i) kk S.slots.size);
          lists = kept_1 ws k (moved x q i) kk S.slots.size;
          branch = kept_2 ws k (moved x q i) kk S.slots.size;
          below = refl;
          few = X.again.few;
        })
        X.again.there
        (other_clause {a = X.a} {e = X.e} {p = x.call} {q = q} {i = i} {program = X.program} {rest = after} {c = f} (kept_3 ws k (moved x q i) kk S.slots.size ∙ X.with.atom) X.with.base (kept_4 ws k (moved x q i) kk S.slots.size)
        X.with.called (omega (arith, rest_number A C.0)) X.with.kind X.with.here (rest_agree agree (omega arith) X.with.program_is)
        (rest_agree agree (omega arith) C.0, rest_agree agree (omega arith) C.1) e X.with.room X.with.most)
        X.again.waiting in
        let z : suc k ≡ k + 1 = omega arith in
        record {
          below = kept_outside ws k (moved x q i) kk S.slots.size 0 (9744 + 5 * k) (inr (omega arith));
          memo = kept_outside ws k (moved x q i) kk S.slots.size 13568 15616 (inl (omega (arith, kk)));
          leaves = leaves_kept ws k (moved x q i) kk S.slots.size;
          most = omega arith;
          waiting = rw (d, ← z) W;
        }

  -- WHAT THE SEARCH SAYS
  module _ (a f m : ℕ) (ae : a ≡ x.atom / 4096 - 1) (fe : f ≡ field book a 1) (me : m ≡ field book a 2) where
    pub candidate_here : IsCandidate book ws x.made x.programs x.node x.index f m
    candidate_here =
        let z : a ≡ X.a = ae ∙ atom_record in
        let y : f ≡ field book X.a 1 = fe ∙ ap (λ (r : ℕ). field book r 1) z in
        let w : m ≡ field book X.a 2 = me ∙ ap (λ (r : ℕ). field book r 2) z in
        record { c = X.f; after = X.after; clause = X.with.clause; first = rw (y, w) X.with.first }

    pub next_is : (o : Option Place) → ((rest : List Force) → IsRest book ws x.made x.programs x.node (x.index + 1) rest → Sought book ws x.made x.programs f m rest o) → NextIs book ws x o
    next_is o s = rw (fe, me, ae) at s

  module _ (o : Option Place) (s : NextIs book ws x o) where
    pub here : Sought book ws x.made x.programs (field book X.a 1) (field book X.a 2) X.after o
    here = rw atom_record at (s X.after standing)

    pub keep_ready : Accepted book → (p : Place) → o ≡ Some p → Small p.program p.clause
    keep_ready A p e = go (rw e at here)
      where
        go : Sought book ws x.made x.programs (field book X.a 1) (field book X.a 2) X.after (Some p) → Small p.program p.clause
        go (sought r y z) = keep_small A p.program p.clause r.0

    pub renewed : Accepted book → (p : Place) (y : Back) (ws' : List ℕ) → o ≡ Some p → y ≡ moved x p.program p.clause → ws' ≡ keep_words ws k y → Renewed book ws ws' k x threads X (k + 1)
    renewed A p y ws' e ye d = rw (d, ye) (go (rw e at here))
      where
        go : Sought book ws x.made x.programs (field book X.a 1) (field book X.a 2) X.after (Some p) → Renewed book ws (keep_words ws k (moved x p.program p.clause)) k x threads X (k + 1)
        go (sought {c = c} {after = after} r y z) = renew_keeps p.program p.clause c after r A y z

    pub dropped : o ≡ None → Renewed book ws ws k x threads X k
    dropped e = go (rw e at here)
      where
        go : Sought book ws x.made x.programs (field book X.a 1) (field book X.a 2) X.after None → Renewed book ws ws k x threads X k
        go (no_more z) = renew_drops z
