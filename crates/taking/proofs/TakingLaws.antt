-- The step that takes a goal: what the registers stand for makes it safe, and each kind of goal gives a step of the run.
use mathlib.Core.Path.{◌≡◌, refl, sym, ◌∙◌, ap}
use mathlib.Core.Logic.{◌≢◌}
use mathlib.Core.Bool.{true}
use mathlib.Core.List.{List, ◌∷◌}
use Prim.Native.Nat.{ℕ, ◌+◌, ◌-◌, ◌*◌, ◌/◌, ◌%◌, ◌≤◌, ◌<◌}
use native.Mathlib.Omega.{arith}
use lib.ListN.{get_or}
use Rattle.book.specs.Records.{field, records}
use Rattle.book.specs.Kinds.{Kind, variable_kind, term_kind, link_kind, atom_kind, and_kind, or_kind, suppose_kind, clause_kind, tie_kind, question_kind, no_kind, kind_of, kind_at, is_goal}
use Rattle.book.proofs.Accepted.{Accepted, Formed}
use Rattle.book.proofs.KindLaws.{KindSays, kind_says}
use Rattle.machine.specs.declared.Limit.TheVariants.{Goals}
use Rattle.machine.specs.declared.Ending.TheVariants.{Stopped}
use Rattle.machine.specs.Machine.{Thread, solving, Branch}
use Rattle.words.specs.Words.{term_word, rec_of, base_of}
use Rattle.words.specs.Readable.{Readable, HasArguments}
use Rattle.steps.proofs.ReadyLaws.{has_atom}
use Rattle.words.proofs.PackLaws.{rec_pack, base_pack, pack_large}
use Rattle.words.proofs.ReadLaws.{in_book}
use Rattle.seeking.specs.Seeking.{Standing}
use Rattle.seeking.specs.Memo.{MemoOnly}
use Rattle.std.proofs.Common.{Some, None}
use Rattle.branch.specs.State.{IsBranch}
use Rattle.branch.proofs.TakeLaws.{CellAt, cell_at}
use Rattle.following.specs.declared.Followed.{Followed}
use Rattle.steps.specs.declared.Branch.{Branch as Held}
use Rattle.steps.specs.declared.Regs.{Regs}
use Rattle.steps.specs.Search.{tops_of, Stands, Stands.goal_in_hand, Stands.going_back}
use Rattle.returning.specs.declared.Reached.{Reached}
use Rattle.returning.specs.declared.Reached.TheVariants.{Onward, Finished}
use Rattle.returning.specs.Reaching.{ReachGives.reach_on, ReachGives.reach_end, ReachContract}
use Rattle.taking.specs.declared.Cell.{Cell}
use Rattle.taking.specs.Takes.{cell_of, Room, and_words, and_regs, or_words, or_regs, suppose_words, suppose_regs, AtomTaken, PlainAhead, plain_words, plain_regs}
use Rattle.taking.proofs.HandLaws.{Hand, trail_room}
use Rattle.taking.proofs.TakeRuns.{goals_stop, and_steps, or_steps, suppose_steps}
use Rattle.taking.proofs.AtomRuns.{atom_steps}
use Rattle.taking.proofs.PlainSteps.{plain_steps}
use Rattle.taking.proofs.MemoFrames.{reach_only}

-- THE KIND OF A GOAL, by its number
module _ (book : List ℕ) (g : ℕ) where
  and_kind_lem : field book g 0 ≡ 5 → kind_at book g ≡ and_kind
  unfolding kind_at kind_of
  and_kind_lem e = rw (kind_at, e) refl

  or_kind_lem : field book g 0 ≡ 6 → kind_at book g ≡ or_kind
  unfolding kind_at kind_of
  or_kind_lem e = rw (kind_at, e) refl

  -- the first kind of a goal
  atom_kind_lem : is_goal (kind_at book g) ≡ true → field book g 0 < 5 → kind_at book g ≡ atom_kind
  unfolding kind_at is_goal
  atom_kind_lem t a = go (kind_of (field book g 0)) t (kind_says (field book g 0))
    where
      go : (k : Kind) → is_goal k ≡ true → KindSays (field book g 0) k → k ≡ atom_kind
      go atom_kind e s = refl
      go and_kind e s = absurd (omega (arith, a, s))
      go or_kind e s = absurd (omega (arith, a, s))
      go suppose_kind e s = absurd (omega (arith, a, s))
      go variable_kind e s = let z : ◌≡◌ {A = ℕ} 0 1 = cc in absurd (omega arith)
      go term_kind e s = let z : ◌≡◌ {A = ℕ} 0 1 = cc in absurd (omega arith)
      go link_kind e s = let z : ◌≡◌ {A = ℕ} 0 1 = cc in absurd (omega arith)
      go clause_kind e s = let z : ◌≡◌ {A = ℕ} 0 1 = cc in absurd (omega arith)
      go tie_kind e s = let z : ◌≡◌ {A = ℕ} 0 1 = cc in absurd (omega arith)
      go question_kind e s = let z : ◌≡◌ {A = ℕ} 0 1 = cc in absurd (omega arith)
      go no_kind e s = let z : ◌≡◌ {A = ℕ} 0 1 = cc in absurd (omega arith)

  -- a goal that is none of these
  suppose_kind_lem : is_goal (kind_at book g) ≡ true → 5 ≤ field book g 0 → field book g 0 ≢ 5 → field book g 0 ≢ 6 → kind_at book g ≡ suppose_kind
  unfolding kind_at is_goal
  suppose_kind_lem t a b c = go (kind_of (field book g 0)) t (kind_says (field book g 0))
    where
      go : (k : Kind) → is_goal k ≡ true → KindSays (field book g 0) k → k ≡ suppose_kind
      go suppose_kind e s = refl
      go atom_kind e s = absurd (omega (arith, a, s))
      go and_kind e s = absurd (b s)
      go or_kind e s = absurd (c s)
      go variable_kind e s = let z : ◌≡◌ {A = ℕ} 0 1 = cc in absurd (omega arith)
      go term_kind e s = let z : ◌≡◌ {A = ℕ} 0 1 = cc in absurd (omega arith)
      go link_kind e s = let z : ◌≡◌ {A = ℕ} 0 1 = cc in absurd (omega arith)
      go clause_kind e s = let z : ◌≡◌ {A = ℕ} 0 1 = cc in absurd (omega arith)
      go tie_kind e s = let z : ◌≡◌ {A = ℕ} 0 1 = cc in absurd (omega arith)
      go question_kind e s = let z : ◌≡◌ {A = ℕ} 0 1 = cc in absurd (omega arith)
      go no_kind e s = let z : ◌≡◌ {A = ℕ} 0 1 = cc in absurd (omega arith)

-- WHAT THE REGISTERS STAND FOR: a branch whose first goal is in their cell
pub record Facing (book ws : List ℕ) (r : Regs) (held : Held) (threads : List Thread) : Type 0 where
  pub branch : Branch
  pub waiting : List Thread
  pub hand : Hand book ws (tops_of r) held.cell held.taken held.supposed branch waiting
  pub cell : CellAt book ws r.made r.cells r.programs held.cell branch.goals
  pub is : threads ≡ solving branch ∷ waiting

facing : {book ws : List ℕ} {r : Regs} {held : Held} {threads : List Thread} → r.branch ≡ Some held → 0 < held.cell → Stands book ws r threads → Facing book ws r held threads
facing {book} {ws} {r} {held} s c (goal_in_hand {held = d} {b = b} {threads = ts} e S B W) =
    let z : Some d ≡ Some held = sym e ∙ s in
    let i : d ≡ held = cc in
    let D : IsBranch book ws (tops_of r) held.cell held.taken held.supposed b = rw i at B in
    record { branch = b; waiting = ts; hand = record { sound = S; branch = D; waiting = W }; cell = cell_at c D.goals; is = refl }
facing {held = held} s c (going_back e S W) = let z : Some held ≡ None = sym s ∙ e in let y : ◌≡◌ {A = ℕ} 0 1 = cc in absurd (omega arith)

module _ (book : List ℕ) (ws : List ℕ) (r : Regs) (held : Held) (threads : List Thread) (T : Facing book ws r held threads) where
  abbrev cell_here_lem : Cell
  cell_here_lem = record { word = term_word T.cell.g T.cell.b; goal = T.cell.g; base = T.cell.b; program = T.cell.p; next = T.cell.q }

  cell_below : held.cell < 1026
  cell_below = omega (arith, T.cell.below, T.hand.sound.cells_most)

  cell_ready : (held.cell < 1026) × (4096 ≤ get_or ws (6144 + 2 * held.cell) 0)
  cell_ready = (cell_below, rw T.cell.word (pack_large T.cell.g T.cell.b))

  -- the code reads the cell
  cell_read : cell_of ws held.cell ≡ cell_here_lem
  unfolding cell_of rec_of base_of
  cell_read =
      let X = T.cell in
      let next_small : X.q < 4096 = omega (arith, X.falls, cell_below) in
      let a : get_or ws (6144 + 2 * held.cell) 0 / 4096 - 1 ≡ X.g = rw X.word (rec_pack X.g X.b X.base) in
      let b : get_or ws (6144 + 2 * held.cell) 0 % 4096 ≡ X.b = rw X.word (base_pack X.g X.b X.base) in
      let c : get_or ws (6144 + 2 * held.cell + 1) 0 / 4096 ≡ X.p = rw X.link (omega arith) in
      let d : get_or ws (6144 + 2 * held.cell + 1) 0 % 4096 ≡ X.q = rw X.link (omega arith) in
      rw (cell_of, a, b, c, d, X.word) refl

  room_here : Readable book → held.taken < 512 → Room ws r held cell_here_lem
  room_here R l =
      let X = T.cell in
      let S = T.hand.sound in
      let B = T.hand.branch in (
        ((in_book book R X.g X.here.inside).1, X.base, omega (arith, X.program_below, S.programs_most), omega (arith, X.falls, cell_below)),
        (omega (arith, S.slots.room), omega (arith, trail_room T.hand), omega (arith, B.cells_few), omega (arith, B.programs_few), omega (arith, B.alternatives_few), l, S.slots.size),
      )

-- THE STEP: it is safe when somebody stands for the registers
module _ (book ws : List ℕ) (r : Regs) (held : Held) (s : r.branch ≡ Some held) (c : 0 < held.cell) (some : (threads : List Thread) × Stands book ws r threads) where
  abbrev face_some : Facing book ws r held some.0
  face_some = facing s c some.1

  pub read_ready : (held.cell < 1026) × (4096 ≤ get_or ws (6144 + 2 * held.cell) 0)
  read_ready = cell_ready book ws r held some.0 face_some

  module _ (x : Cell) (xe : x ≡ cell_of ws held.cell) where
    pub goal_inside : x.goal < records book
    goal_inside = rw (xe, cell_read book ws r held some.0 face_some) face_some.cell.here.inside

    pub goal_atom : (kind : ℕ) → kind ≡ field book x.goal 0 → kind < 5 → HasArguments book x.goal
    goal_atom kind e k =
        let g : is_goal (kind_at book x.goal) ≡ true = rw (xe, cell_read book ws r held some.0 face_some) face_some.cell.here.kind in
        has_atom book x.goal goal_inside (atom_kind_lem book x.goal g (rw e at k))

    pub take_room : Readable book → held.taken < 512 → Room ws r held x
    take_room R l = rw (xe, cell_read book ws r held some.0 face_some) (room_here book ws r held some.0 face_some R l)

    pub take_standing : Standing book ws r.made r.programs x.program 0
    take_standing = rw (xe, cell_read book ws r held some.0 face_some) (face_some.cell.program, face_some.cell.program_is)

-- and whatever threads they stand for, it is the machine's unit
module _ (book : List ℕ) (F : Formed book) (ws : List ℕ) (r : Regs) (held : Held) (left : ℕ) (s : r.branch ≡ Some held) (c : 0 < held.cell) (h : 0 < left) where
  pub stops : 512 ≤ held.taken → ReachContract book ws ws r left (Finished (Stopped Goals) 0)
  stops l threads Z = let T = facing s c Z in rw T.is (reach_end (goals_stop book F ws r held left T.branch T.waiting h T.hand T.cell l))

  module _ (x : Cell) (xe : x ≡ cell_of ws held.cell) (l : held.taken < 512) (kind : ℕ) (ke : kind ≡ field book x.goal 0) where
    module _ (threads : List Thread) (Z : Stands book ws r threads) where
      abbrev face : Facing book ws r held threads
      face = facing s c Z

      read_as : x ≡ cell_here_lem book ws r held threads face
      read_as = xe ∙ cell_read book ws r held threads face

      kind_here : kind ≡ field book face.cell.g 0
      kind_here = ke ∙ ap (λ (z : Cell). field book z.goal 0) read_as

    -- the search for the first candidate writes in the memo only
    pub takes_atom : kind < 5 → (o : Reached) → AtomTaken book ws r held x o → (ws' : List ℕ) → MemoOnly ws ws' → ReachContract book ws ws' r left o
    takes_atom k o A ws' O threads Z =
        let T = face threads Z in
        rw T.is (reach_only O (atom_steps book F ws r held left T.branch T.waiting h T.hand T.cell l (atom_kind_lem book T.cell.g T.cell.here.kind (rw (kind_here threads Z) at k)) o (rw (read_as threads Z) at A)))

    module _ (ws' : List ℕ) (y : Regs) where
      pub takes_and : kind ≡ 5 → ws' ≡ and_words book r x ws → y ≡ and_regs r held → ReachContract book ws ws' r left (Onward 1 y)
      takes_and k e d threads Z =
          let T = face threads Z in
          rw (T.is, d) (reach_on (and_steps book F ws r held left T.branch T.waiting h T.hand T.cell l ws' (and_kind_lem book T.cell.g (sym (kind_here threads Z) ∙ k)) (rw (read_as threads Z) at e)))

      pub takes_or : kind ≡ 6 → ws' ≡ or_words book r held x ws → y ≡ or_regs r held → ReachContract book ws ws' r left (Onward 1 y)
      takes_or k e d threads Z =
          let T = face threads Z in
          rw (T.is, d) (reach_on (or_steps book F ws r held left T.branch T.waiting h T.hand T.cell l ws' (or_kind_lem book T.cell.g (sym (kind_here threads Z) ∙ k)) (rw (read_as threads Z) at e)))

      pub takes_suppose : 5 ≤ kind → kind ≢ 5 → kind ≢ 6 → ws' ≡ suppose_words book r x left ws → y ≡ suppose_regs r held → ReachContract book ws ws' r left (Onward 1 y)
      takes_suppose a b c e d threads Z =
          let T = face threads Z in
          let z = kind_here threads Z in
          let k = suppose_kind_lem book T.cell.g T.cell.here.kind (rw z at a) (λ q. b (z ∙ q)) (λ q. c (z ∙ q)) in
          rw (T.is, d) (reach_on (suppose_steps book F ws r held left T.branch T.waiting h T.hand T.cell l ws' k (rw (read_as threads Z) at e)))

-- the goals of plain rules
module _ (book : List ℕ) (A : Accepted book) (ws : List ℕ) (r : Regs) (held : Held) (left : ℕ) (s : r.branch ≡ Some held) (c : 0 < held.cell) (h : 0 < left) (x : Cell) (xe : x ≡ cell_of ws held.cell)
    (p : Followed) (some : 0 < p.rules) (P : PlainAhead book held x left p) where
  pub takes_plain : (ws' : List ℕ) (y : Regs) → ws' ≡ plain_words r x p ws → y ≡ plain_regs r held p → ReachContract book ws ws' r left (Onward (2 * p.rules) y)
  takes_plain ws' y e d threads Z =
      let T = facing s c Z in
      let z = xe ∙ cell_read book ws r held threads T in
      rw (T.is, d) (reach_on (plain_steps book A ws r held left T.branch T.waiting h T.hand T.cell p some (rw z at P) ws' (rw z at e)))
