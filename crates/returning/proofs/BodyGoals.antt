-- The body's cell in the state: the list of goals with the body at its front, and all that stays.
use mathlib.Core.Path.{◌≡◌, refl, ◌∙◌}
use mathlib.Core.Logic.{inl}
use mathlib.Core.Bool.{Bool, true, false}
use mathlib.Core.List.{List}
use Prim.Native.Nat.{ℕ, ◌+◌, ◌*◌, ◌≤◌, ◌<◌}
use native.Mathlib.Omega.{arith}
use borrow.Author.Tests.{eq-eqb, ne_eqb}
use lib.Dec.{eqb}
use Rattle.book.specs.Records.{field}
use Rattle.book.specs.Tree.{Goal, no_body, with_body, body_of}
use Rattle.book.specs.Scoped.{ScopedBody}
use Rattle.book.specs.Decode.{clause_of, goal_of, body_by}
use Rattle.book.proofs.Tests.{Tested, equal, other, tested}
use Rattle.book.proofs.Accepted.{Accepted}
use Rattle.book.proofs.Pointers.{clause_body}
use Rattle.book.proofs.Unfolding.{clause_of_lem, clause_does}
use Rattle.machine.specs.Machine.{Thread, Todo, with_body_of}
use Rattle.words.specs.Words.{term_word}
use Rattle.words.specs.Readable.{Readable}
use Rattle.words.specs.Frame.{Keeps}
use Rattle.words.proofs.StackLaws.{keeps_refl, keeps_narrow}
use Rattle.branch.specs.declared.Back.{Back}
use Rattle.branch.specs.State.{Tops, GoalHere, IsRest, IsGoals, Sound, Waiting, Agree, put_cell}
use Rattle.branch.proofs.StateLaws.{rest_agree, rest_more, goals_agree, goals_more, goals_push, sound_agree, waiting_agree, waiting_raised}
use Rattle.branch.proofs.TakeLaws.{cell_agree, cell_word, put_outside}
use Rattle.branch.proofs.ClauseLaws.{ClauseHere}
use Rattle.steps.specs.Search.{Leaves}
use Rattle.steps.proofs.LeaveLaws.{leaves_none, leaves_cell}
use Rattle.returning.specs.declared.Front.{Front}
use Rattle.returning.specs.Returns.{tops_at, ToClause}
use Rattle.returning.specs.Reentry.{Renewed, body_words, front_of}
use Rattle.returning.proofs.BodyLaws.{body_words_lem, body_front, none_words, none_front}
use Rattle.returning.proofs.RenewLaws.{trail_room, kept_below, rest_below, goals_below}
use Rattle.returning.proofs.CandidateLaws.{clause_now, outer_now, clause_now_lem}

-- the tops with `made` variables, the list l and n alternatives
abbrev pub tops_with : Back → ℕ → Front → ℕ → Tops
tops_with x made l n = record { made = made; trail = x.trail; cells = l.cells; programs = x.programs; alternatives = n }

no_body_lem : (goals : ℕ → Goal) (flag p : ℕ) → (flag ≡ 1 → ⊥) → body_by goals flag p ≡ no_body
unfolding body_by
no_body_lem goals flag p e = rw (body_by, ne_eqb flag 1 e) refl

some_body : (goals : ℕ → Goal) (flag p : ℕ) → flag ≡ 1 → body_by goals flag p ≡ with_body (goals p)
unfolding body_by
some_body goals flag p e = rw (body_by, eq-eqb flag 1 e) refl

module _ (book : List ℕ) (R : Readable book) (A : Accepted book) (ws : List ℕ) (k : ℕ) (x : Back) (threads : List Thread) (X : ToClause book ws k x threads)
    (ws₁ : List ℕ) (n : ℕ) (N : Renewed book ws ws₁ k x threads X n) (room : x.made + field book (clause_now book R A ws k x threads X) 1 ≤ 2048) where
  abbrev c : ℕ
  c = clause_now book R A ws k x threads X

  abbrev H : ClauseHere book x.made X.f c (outer_now book R A ws k x threads X)
  H = clause_now_lem book R A ws k x threads X

  abbrev S : Sound book ws (tops_at x k)
  S = X.again.sound

  abbrev pub made_now : ℕ
  made_now = x.made + field book c 1

  -- renewing the alternative left the rest alone
  pub agree_renewed : Agree (tops_at x k) ws ws₁
  agree_renewed = record {
    slots = keeps_narrow (omega arith) (omega (arith, S.slots.room)) N.below;
    trail = keeps_narrow (omega arith) (omega (arith, trail_room book ws k x threads X)) N.below;
    cells = keeps_narrow (omega arith) (omega (arith, S.cells_most)) N.below;
    programs = keeps_narrow (omega arith) (omega (arith, S.programs_most)) N.below;
    alternatives = keeps_narrow (omega arith) (omega arith) N.below;
  }

  with_tops : (w : List ℕ) (l : Front) → 1 ≤ l.cells → l.cells ≤ 1026 → Sound book w (tops_at x k) → Sound book w (tops_with x x.made l n)
  with_tops w l a b s = record {
    slots = s.slots;
    fits = s.fits;
    unknowns = s.unknowns;
    cells_some = a;
    programs_some = s.programs_some;
    cells_most = b;
    programs_most = s.programs_most;
    alternatives_most = omega (arith, N.most, kept_below book ws k x threads X);
    small = s.small;
  }

  abbrev old : Front
  old = record { cell = x.cell; cells = x.cells }

  sound_renewed : Sound book ws₁ (tops_with x x.made old n)
  sound_renewed = with_tops ws₁ old S.cells_some S.cells_most (sound_agree agree_renewed S)

  goals_renewed : IsGoals book ws₁ made_now x.cells x.programs x.cell X.b.goals
  goals_renewed = goals_more (omega arith) (omega arith) (omega arith) (goals_agree agree_renewed (omega arith) (omega arith) X.again.there.goals)

  program_renewed : IsRest book ws₁ made_now x.programs x.call 0 X.program
  program_renewed = rest_more (omega arith) (omega arith) (rest_agree agree_renewed (omega arith) X.with.program_is)

  abbrev pub goals_now : List Todo
  goals_now = with_body_of (body_of (clause_of book c)) x.made X.program X.b.goals

  body_is : body_of (clause_of book c) ≡ body_by (goal_of book) (field book c 5) (field book c 6)
  body_is = clause_does book A.formed c H.inside H.kind

  -- WHAT THERE IS BEFORE ENTERING, with the list l
  pub record Ready (ws₂ : List ℕ) (l : Front) : Type 0 where
    pub agree : Agree (tops_at x k) ws₁ ws₂
    pub sound : Sound book ws₂ (tops_with x x.made l n)
    pub goals : IsGoals book ws₂ made_now l.cells x.programs l.cell goals_now
    pub leaves : Leaves ws₁ ws₂
    pub memo : Keeps 13568 15616 ws₁ ws₂
    pub few : l.cells ≤ 2 * x.taken + 2
    pub waiting : {ts : List Thread} → Waiting book ws₁ (tops_at x n) ts → Waiting book ws₂ (tops_with x x.made l n) ts

  without : (field book c 5 ≡ 1 → ⊥) → Ready ws₁ old
  unfolding with_body_of
  without e =
      let z : body_of (clause_of book c) ≡ no_body = body_is ∙ no_body_lem (goal_of book) (field book c 5) (field book c 6) e in
      record {
        agree = agree_same;
        sound = sound_renewed;
        goals = rw z goals_renewed;
        leaves = leaves_none ws₁;
        memo = keeps_refl 13568 15616 ws₁;
        few = X.again.there.cells_few;
        waiting = λ w. w;
      }
    where
      agree_same : Agree (tops_at x k) ws₁ ws₁
      agree_same = record { slots = keeps_refl _ _ ws₁; trail = keeps_refl _ _ ws₁; cells = keeps_refl _ _ ws₁; programs = keeps_refl _ _ ws₁; alternatives = keeps_refl _ _ ws₁ }

  module _ (e : field book c 5 ≡ 1) where
    abbrev put : List ℕ
    put = put_cell x.cells (term_word (field book c 6) x.made) x.call x.cell ws₁

    abbrev new : Front
    new = record { cell = x.cells; cells = x.cells + 1 }

    cells_free : x.cells < 1026
    cells_free = omega (arith, X.with.room, X.with.most)

    agree_put : (made m : ℕ) → made ≤ 2048 → Agree (tops_with x made old m) ws₁ put
    agree_put made m h = cell_agree (tops_with x made old m) x.cells (term_word (field book c 6) x.made) x.call x.cell ws₁ h (trail_room book ws k x threads X) (omega arith) cells_free

    body_with : body_of (clause_of book c) ≡ with_body (goal_of book (field book c 6))
    body_with = body_is ∙ some_body (goal_of book) (field book c 5) (field book c 6) e

    body_scoped : ScopedBody (field book c 1) (body_by (goal_of book) (field book c 5) (field book c 6))
    body_scoped = (rw (clause_of_lem book A.formed c H.inside H.kind) at H.scoped).2

    body_here : GoalHere book made_now (field book c 6) x.made
    body_here =
        let g = clause_body book A.formed c H.inside H.kind e in
        let z = some_body (goal_of book) (field book c 5) (field book c 6) e in
        record { inside = omega (arith, g.0, H.inside); kind = g.1; holder = field book c 1; scoped = rw z at body_scoped; room = omega arith }

    with_put : Ready put new
    unfolding with_body_of
    with_put =
        let w = cell_word x.cells (term_word (field book c 6) x.made) x.call x.cell ws₁ (omega (arith, cells_free, agree_renewed.slots.size, S.slots.size)) in
        let s = with_tops put new (omega arith) (omega (arith, cells_free)) (sound_agree (agree_put x.made k S.slots.room) (sound_agree agree_renewed S)) in
        let g = goals_push (tops_with x made_now old k) ws₁ put (agree_put made_now k room) (field book c 6) x.made x.call x.cell body_here (omega (arith, S.slots.room)) S.cells_some
        (goals_below S.cells_some X.again.there.goals) (rest_below S.programs_some X.with.program_is) w.0 w.1 program_renewed goals_renewed in
        record {
          agree = agree_put x.made k S.slots.room;
          sound = s;
          goals = rw body_with g;
          leaves = leaves_cell x.cells (term_word (field book c 6) x.made) x.call x.cell ws₁ (omega (arith, cells_free));
          memo = put_outside 13568 15616 x.cells (term_word (field book c 6) x.made) x.call x.cell ws₁ (inl (omega (arith, cells_free)));
          few = omega (arith, X.with.room);
          waiting = λ W. waiting_raised {u = tops_with x x.made new n} (omega arith, refl, omega arith, omega arith, refl) (waiting_agree (agree_put x.made n S.slots.room) sound_renewed W);
        }

  pub body_ready : Ready (body_words book c x ws₁) (front_of book c x)
  body_ready = by (eqb (field book c 5) 1) (tested (field book c 5) 1)
    where
      by : (t : Bool) → Tested (field book c 5) 1 t → Ready (body_words book c x ws₁) (front_of book c x)
      by true (equal e) = rw (body_words_lem book c x ws₁ e, body_front book c x ws₁ e) (with_put e)
      by false (other e) = rw (none_words book c x ws₁ e, none_front book c x ws₁ e) (without e)
