-- The memo: what it needs of the workspace, and how it stays right.
use mathlib.Core.Path.{◌≡◌, sym, ◌∙◌, ap}
use mathlib.Core.Logic.{◌⊎◌, inl, inr}
use mathlib.Core.List.{List}
use Prim.Native.Nat.{ℕ, suc, ◌+◌, ◌-◌, ◌*◌, ◌%◌, ◌≤◌, ◌<◌}
use native.Mathlib.Omega.{arith}
use native.Mathlib.Decide.{dec_lt}
use lib.ListN.{length, get_or}
use Rattle.machine.specs.Machine.{Force}
use Rattle.words.specs.Frame.{Keeps}
use Rattle.words.proofs.StackLaws.{keeps_refl, keeps_trans, keeps_narrow}
use Rattle.words.proofs.ClearLaws.{clear_keeps, clear_zero}
use Rattle.words.proofs.FrameLaws.{fits_most}
use Rattle.std.specs.Prelude.{Option}
use Rattle.seeking.specs.declared.Place.{Place}
use Rattle.branch.specs.State.{Tops, IsRest, IsRest.own_rest, IsRest.put_rest, Sound, Agree}
use Rattle.seeking.specs.Seeking.{Sought, Sought.sought, Sought.no_more, SoughtPut, SoughtPut.put_here, SoughtPut.put_nowhere}
use Rattle.seeking.specs.Memo.{mark_of, forget_words, Finds, EntryRight, Memo, MemoOnly, MemoStays}
use Rattle.branch.proofs.StateLaws.{rest_more}

-- THE PROGRAMS. How many there are matters to a place of program p only in that p is one of them.
pub rest_top : {book ws : List ℕ} {made top top' p i : ℕ} {l : List Force} → (0 < p → p < top') → IsRest book ws made top p i l → IsRest book ws made top' p i l
rest_top h (own_rest e m u) = own_rest e m u
rest_top h (put_rest {program = program} a b c d e f g m j r) = put_rest {program = program} a (h a) c d e f g m j (rest_top (λ z. omega (arith, h a)) r)

module _ {book ws ws' : List ℕ} {top : ℕ} (K : Keeps 8200 (8200 + 3 * top) ws ws') where
  pub rest_keeps : {made p i : ℕ} {l : List Force} → IsRest book ws made top p i l → IsRest book ws' made top p i l
  rest_keeps (own_rest e m u) = own_rest e m u
  rest_keeps (put_rest {p = p} {program = program} a b c d e f g m j r) =
      put_rest {program = program} a b (K.same (8200 + 3 * p) (omega arith) (omega arith) ∙ c) (K.same (8200 + 3 * p + 1) (omega arith) (omega arith) ∙ d) e f g m j (rest_keeps r)

  pub sought_keeps : {made f m : ℕ} {rest : List Force} {o : Option Place} → Sought book ws made top f m rest o → Sought book ws' made top f m rest o
  sought_keeps (sought {x = x} {c = c} {after = after} r y z) = sought {x = x} {c = c} {after = after} (rest_keeps r.0, rest_keeps r.1) y z
  sought_keeps (no_more z) = no_more z

  pub put_keeps : {made f m w : ℕ} {rest : List Force} → SoughtPut book ws made top f m rest w → SoughtPut book ws' made top f m rest w
  put_keeps (put_here e l s) = put_here e l (sought_keeps s)
  put_keeps (put_nowhere {own = own} e r c) = put_nowhere {own = own} e (rest_keeps r) c

sought_more : {book ws : List ℕ} {made top top' f m : ℕ} {rest : List Force} {o : Option Place} → top ≤ top' → Sought book ws made top f m rest o → Sought book ws made top' f m rest o
sought_more {made = made} h (sought {x = x} {c = c} {after = after} r y z) =
    sought {x = x} {c = c} {after = after} (rest_more {made = made} (omega arith) h r.0, rest_more {made = made} (omega arith) h r.1) y z
sought_more h (no_more z) = no_more z

put_more : {book ws : List ℕ} {made top top' f m w : ℕ} {rest : List Force} → top ≤ top' → SoughtPut book ws made top f m rest w → SoughtPut book ws made top' f m rest w
put_more h (put_here e l s) = put_here e l (sought_more h s)
put_more {made = made} h (put_nowhere {own = own} e r c) = put_nowhere {own = own} e (rest_more {made = made} (omega arith) h r) c

pub keeps_back : {lo hi : ℕ} {ws ws' : List ℕ} → Keeps lo hi ws ws' → Keeps lo hi ws' ws
keeps_back K = record { size = sym K.size; same = λ k l u. sym (K.same k l u) }

-- what is found from program p on depends on the words of the programs up to p
pub finds_keeps : {book ws ws' : List ℕ} {programs p f m w : ℕ} → 0 < p → p < programs → Keeps 8200 (8200 + 3 * programs) ws ws' → Finds book ws p f m w → Finds book ws' p f m w
finds_keeps {book} {ws} {ws'} {programs} {p} {f} {m} {w} a b K F made top rest r =
    let K' : Keeps 8200 (8200 + 3 * suc p) ws ws' = keeps_narrow (omega arith) (omega arith) K in
    put_more (below r) (put_keeps K' (F made (suc p) rest (rest_keeps (keeps_back K') (rest_top (λ z. omega arith) r))))
  where
    below : {l : List Force} → IsRest book ws' made top p 0 l → suc p ≤ top
    below (own_rest e x y) = absurd (omega arith)
    below (put_rest c d x y e g h i j q) = d

-- THE MEMO STAYS RIGHT with fewer programs, fewer units and other words elsewhere
pub memo_kept : {book ws ws' : List ℕ} {programs programs' left left' : ℕ} → Keeps 8200 (8200 + 3 * programs) ws ws' → Keeps 13568 15616 ws ws' → programs' ≤ programs → left' ≤ left
    → Memo book ws programs left → Memo book ws' programs' left'
memo_kept {book} {ws} {ws'} {programs} {programs'} {left} {left'} K E h l M = record {
  marks = λ p a b. let m = M.marks p a (omega arith) in let e = mark_same p (omega arith) in omega arith;
  falling = λ p q a b c. let m = M.falling p q a b (omega arith) in let e = mark_same p (omega arith) in let d = mark_same q (omega arith) in omega arith;
  older = λ e b. go e b (M.older e b);
  right = λ e p b a c s f m u v x z.
      let y = E.same (13568 + 2 * e + 1) (omega arith) (omega arith) in
      let d = E.same (13568 + 2 * e) (omega arith) (omega arith) in
      let i = mark_same p (omega arith) in
      rw y (finds_keeps a (omega arith) K (M.right e p b a (omega arith) (sym d ∙ s ∙ i) f m u (rw i at v) (rw y at x) (rw y at z)));
}
  where
    mark_same : (p : ℕ) → p < programs → mark_of ws' p ≡ mark_of ws p
    mark_same p b = K.same (8200 + 3 * p + 2) (omega arith) (omega arith)

    go : (e : ℕ) → e < 1024 → (get_or ws (13568 + 2 * e) 0 ≡ 0) ⊎ (left < get_or ws (13568 + 2 * e) 0) → (get_or ws' (13568 + 2 * e) 0 ≡ 0) ⊎ (left' < get_or ws' (13568 + 2 * e) 0)
    go e b (inl z) = inl (E.same (13568 + 2 * e) (omega arith) (omega arith) ∙ z)
    go e b (inr z) = inr (let d = E.same (13568 + 2 * e) (omega arith) (omega arith) in omega arith)

pub memo_less : {book ws : List ℕ} {programs programs' left left' : ℕ} → programs' ≤ programs → left' ≤ left → Memo book ws programs left → Memo book ws programs' left'
memo_less {ws = ws} {programs = programs} h l M = memo_kept (keeps_refl 8200 (8200 + 3 * programs) ws) (keeps_refl 13568 15616 ws) h l M

-- A PROGRAM IS PUT, with the units that are left as its mark
pub memo_put : {book ws ws' : List ℕ} {programs left : ℕ} → Keeps 8200 (8200 + 3 * programs) ws ws' → Keeps 13568 15616 ws ws' → mark_of ws' programs ≡ left → 0 < left
    → Memo book ws programs left → Memo book ws' (programs + 1) (left - 1)
memo_put {book} {ws} {ws'} {programs} {left} K E n some M =
    let N = memo_kept {programs' = programs} {left' = left} K E (omega arith) (omega arith) M in
    record { marks = λ p a b. mark p a b (dec_lt p programs) N; falling = λ p q a b c. falls p q a b c (dec_lt q programs) N; older = λ e b. old (N.older e b); right = λ e p b a c s. entry e p b a c s (dec_lt p programs) N }
  where
    mark : (p : ℕ) → 0 < p → p < programs + 1 → Dec (p < programs) → Memo book ws' programs left → left - 1 < mark_of ws' p
    mark p a b (yes h) N = let m = N.marks p a h in omega arith
    mark p a b (no h) N = let e : p ≡ programs = omega arith in rw e (omega (arith, n))

    falls : (p q : ℕ) → 0 < p → p < q → q < programs + 1 → Dec (q < programs) → Memo book ws' programs left → mark_of ws' q < mark_of ws' p
    falls p q a b c (yes h) N = N.falling p q a b h
    falls p q a b c (no h) N = let e : q ≡ programs = omega arith in let m = N.marks p a (omega arith) in rw e (omega (arith, n))

    old : {x : ℕ} → (x ≡ 0) ⊎ (left < x) → (x ≡ 0) ⊎ (left - 1 < x)
    old (inl z) = inl z
    old (inr z) = inr (omega arith)

    entry : (e p : ℕ) (b : e < 1024) (a : 0 < p) (c : p < programs + 1) → get_or ws' (13568 + 2 * e) 0 ≡ mark_of ws' p → Dec (p < programs) → Memo book ws' programs left → EntryRight book ws' e p
    entry e p b a c s (yes h) N = N.right e p b a h s
    entry e p b a c s (no h) N = let x : p ≡ programs = omega arith in absurd (newer (rw x at s) (N.older e b))
      where
        newer : {y : ℕ} → y ≡ mark_of ws' programs → (y ≡ 0) ⊎ (left < y) → ⊥
        newer u (inl z) = omega (arith, n)
        newer u (inr z) = omega (arith, n)

-- NOTHING IS REMEMBERED at the start
pub memo_none : {book ws : List ℕ} {left : ℕ} → ((e : ℕ) → e < 1024 → get_or ws (13568 + 2 * e) 0 ≡ 0) → Memo book ws 1 left
memo_none Z = record { marks = λ p a b. absurd (omega arith); falling = λ p q a b c. absurd (omega arith); older = λ e b. inl (Z e b); right = λ e p b a c s. absurd (omega arith) }

-- NOTHING IS REMEMBERED any more in the first n words
module _ (n : ℕ) (ws : List ℕ) (h : n ≤ 2048) where
  pub forget_only : MemoOnly ws (forget_words n ws)
  forget_only = record { below = clear_keeps 0 13568 13568 (n + n % 2) ws (inl (omega arith)); above = clear_keeps 15616 16384 13568 (n + n % 2) ws (inr (omega arith)) }

  pub forget_zero : length ws ≡ 16384 → (k : ℕ) → 13568 ≤ k → k < 13568 + (n + n % 2) → get_or (forget_words n ws) k 0 ≡ 0
  forget_zero l k a b = let e : k ≡ 13568 + (k - 13568) = omega arith in ap (λ i. get_or (forget_words n ws) i 0) e ∙ clear_zero 13568 (n + n % 2) (k - 13568) ws (omega arith) (omega arith)

  pub memo_forgotten : {book : List ℕ} {programs left : ℕ} → length ws ≡ 16384 → programs ≤ 514 → Memo book ws programs left → Memo book (forget_words n ws) programs left
  memo_forgotten {book} {programs} {left} l few M = record {
    marks = λ p a b. rw (mark_same p b) (M.marks p a b);
    falling = λ p q a b c. rw (mark_same p (omega arith), mark_same q c) (M.falling p q a b c);
    older = λ e b. old e (dec_lt (2 * e) n) (M.older e b);
    right = λ e p b a c s. entry e p b a c s (dec_lt (2 * e) n);
  }
    where
      programs_keep : Keeps 8200 (8200 + 3 * programs) ws (forget_words n ws)
      programs_keep = keeps_narrow (omega arith) (omega arith) forget_only.below

      mark_same : (p : ℕ) → p < programs → mark_of (forget_words n ws) p ≡ mark_of ws p
      mark_same p b = programs_keep.same (8200 + 3 * p + 2) (omega arith) (omega arith)

      gone : (e : ℕ) → 2 * e < n → get_or (forget_words n ws) (13568 + 2 * e) 0 ≡ 0
      gone e b = forget_zero l (13568 + 2 * e) (omega arith) (omega arith)

      stays : (k : ℕ) → 13568 + (n + n % 2) ≤ k → get_or (forget_words n ws) k 0 ≡ get_or ws k 0
      stays k a = (clear_keeps (13568 + (n + n % 2)) (k + 1) 13568 (n + n % 2) ws (inr (omega arith))).same k a (omega arith)

      old : (e : ℕ) → Dec (2 * e < n) → (get_or ws (13568 + 2 * e) 0 ≡ 0) ⊎ (left < get_or ws (13568 + 2 * e) 0) → (get_or (forget_words n ws) (13568 + 2 * e) 0 ≡ 0) ⊎ (left < get_or (forget_words n ws) (13568 + 2 * e) 0)
      old e (yes x) o = inl (gone e x)
      old e (no x) o = rw (stays (13568 + 2 * e) (omega arith)) o

      entry : (e p : ℕ) → e < 1024 → 0 < p → p < programs → get_or (forget_words n ws) (13568 + 2 * e) 0 ≡ mark_of (forget_words n ws) p → Dec (2 * e < n) → EntryRight book (forget_words n ws) e p
      entry e p b a c s (yes x) = let m = M.marks p a c in let z = gone e x in let y = mark_same p c in absurd (omega arith)
      entry e p b a c s (no x) = λ f m u i v z.
          let y = stays (13568 + 2 * e + 1) (omega arith) in
          rw y (finds_keeps a c programs_keep (M.right e p b a c (sym (stays (13568 + 2 * e) (omega arith)) ∙ s ∙ mark_same p c) f m u (rw (mark_same p c) at i) (rw y at v) (rw y at z)))

-- NOTHING BUT THE MEMO DIFFERS
pub only_none : (ws : List ℕ) → MemoOnly ws ws
only_none ws = record { below = keeps_refl 0 13568 ws; above = keeps_refl 15616 16384 ws }

pub only_trans : {ws ws₁ ws₂ : List ℕ} → MemoOnly ws ws₁ → MemoOnly ws₁ ws₂ → MemoOnly ws ws₂
only_trans a b = record { below = keeps_trans a.below b.below; above = keeps_trans a.above b.above }

-- all that lies below the tops is as it was
pub tops_only : {book ws ws' : List ℕ} {t : Tops} → Sound book ws t → MemoOnly ws ws' → Agree t ws ws'
tops_only {ws = ws} {t = t} S O =
    let trail = fits_most t.made t.trail ws S.slots.room S.fits in
    record {
      slots = keeps_narrow (omega arith) (omega (arith, S.slots.room)) O.below;
      trail = keeps_narrow (omega arith) (omega arith) O.below;
      cells = keeps_narrow (omega arith) (omega (arith, S.cells_most)) O.below;
      programs = keeps_narrow (omega arith) (omega (arith, S.programs_most)) O.below;
      alternatives = keeps_narrow (omega arith) (omega (arith, S.alternatives_most)) O.below;
    }

pub stays_none : (book : List ℕ) (programs : ℕ) (ws : List ℕ) → MemoStays book programs ws ws
stays_none book programs ws = (only_none ws, λ left M. M)

pub stays_trans : {book : List ℕ} {programs : ℕ} {ws ws₁ ws₂ : List ℕ} → MemoStays book programs ws ws₁ → MemoStays book programs ws₁ ws₂ → MemoStays book programs ws ws₂
stays_trans a b = (only_trans a.0 b.0, λ left M. b.1 left (a.1 left M))
