-- The entries of the memo: where one is, what is known by it, and what is remembered.
use mathlib.Core.Path.{◌≡◌, refl, sym, ◌∙◌, ap}
use mathlib.Core.Logic.{◌⊎◌, inl, inr}
use mathlib.Core.List.{List}
use Prim.Native.Nat.{ℕ, ◌+◌, ◌-◌, ◌*◌, ◌/◌, ◌%◌, ◌≤◌, ◌<◌}
use native.Mathlib.Omega.{arith}
use native.Mathlib.Decide.{dec_lt}
use lib.ListN.{length, get_or, set, length-set}
use lib.Seq.{get_or-set_same, get_or-set_other}
use Rattle.words.specs.Frame.{Keeps}
use Rattle.words.proofs.StackLaws.{keeps_narrow}
use Rattle.std.specs.Prelude.{Option, Some, None, SomeIff, IfSome}
use denote.Enum.Declared.{tag_of}
use Rattle.seeking.specs.contracts.Half.{the_type}
use Rattle.seeking.specs.declared.Half.{Half}
use Rattle.seeking.specs.declared.Half.TheVariants.{First, After}
use Rattle.seeking.specs.Memo.{half_number, mark_of, place_of, entry_at, head_rest, Finds, EntryRight, Memo, memo_words, MemoOnly, MemoStays}
use Rattle.seeking.proofs.MemoLaws.{finds_keeps}

-- WHERE AN ENTRY IS
pub half_tag : (half : Half) → tag_of the_type half ≡ half_number half
half_tag First = refl
half_tag After = refl

pub half_most : (half : Half) → half_number half ≤ 1
half_most First = omega arith
half_most After = omega arith

pub entry_here : (mark half f : ℕ) → half ≤ 1 → (13568 + 1024 * half + 2 * ((2 * (mark % 512) + f) % 512) ≡ entry_at mark half f) × (13568 + 1024 * half + 2 * ((2 * (mark % 512) + f) % 512) + 1 < 15616)
unfolding entry_at
entry_here mark half f h = (refl, omega arith)

pub rest_here : (f m : ℕ) → f < 65536 → m ≤ 8 → (16 * (f / 512) + m ≡ head_rest f m) × (16 * (f / 512) + m < 2048)
unfolding head_rest
rest_here f m h l = (refl, omega arith)

pub memo_words_lem : (ws : List ℕ) (half p f m w e h : ℕ) → e ≡ entry_at (mark_of ws p) half f → h ≡ head_rest f m
    → set (set ws e (mark_of ws p)) (e + 1) (131072 * h + w + 1) ≡ memo_words ws half p f m w
unfolding memo_words
memo_words_lem ws half p f m w e h x y = rw (x, y) refl

-- the place and the rest are a head's, and no other's
rest_says : (n : ℕ) {f m g o : ℕ} → m ≤ 8 → o ≤ 8 → place_of n f ≡ place_of n g → head_rest f m ≡ head_rest g o → (f ≡ g) × (m ≡ o)
unfolding head_rest
rest_says n {f} {m} {g} {o} a b p r = let q : f / 512 ≡ g / 512 = omega arith in (omega arith, omega arith)

-- WHAT IS KNOWN, if there is something: the code's test of it
pub if_some : {P : Type 0} {v : ℕ} (Q : ℕ → Type 0) (o : Option ℕ) → SomeIff o P v → (P → Q v) → IfSome o Q
if_some Q None s h = tt
if_some Q (Some x) s h = rw s.1 (h s.0)

pub known_finds : {book ws : List ℕ} {top left q half f m mark e h : ℕ} → Memo book ws top left → 0 < q → q < top → half ≤ 1 → mark ≡ mark_of ws q → e ≡ entry_at mark half f → h ≡ head_rest f m
    → get_or ws e 0 ≡ mark → get_or ws (e + 1) 0 / 131072 ≡ h → m ≤ 8 → 0 < get_or ws (e + 1) 0 % 131072 → Finds book ws q f m (get_or ws (e + 1) 0 % 131072 - 1)
unfolding entry_at
known_finds {book} {ws} {half = half} {f = f} {m = m} {mark = mark} {e = e} M a b hh me ee he s x u z =
    let E = 512 * half + place_of mark f in
    let i : e ≡ 13568 + 2 * E = omega (arith, ee) in
    let j : E % 512 ≡ place_of mark f = omega arith in
    let F = M.right E _ (omega arith) a b (rw (← i) (s ∙ me)) f m u (rw (← me) j) (rw (← i) (x ∙ he)) (rw (← i) z) in
    rw (← i) at F

-- WHAT IS REMEMBERED
module _ (ws : List ℕ) (half p f m w : ℕ) (one-half : half ≤ 1) (long : length ws ≡ 16384) where
  abbrev slot : ℕ
  slot = 512 * half + place_of (mark_of ws p) f

  abbrev at : ℕ
  at = 13568 + 2 * slot

  abbrev after : List ℕ
  after = memo_words ws half p f m w

  abbrev one : List ℕ
  one = set ws at (mark_of ws p)

  slot_below : slot < 1024
  slot_below = omega arith

  at_is : entry_at (mark_of ws p) half f ≡ at
  unfolding entry_at
  at_is = omega arith

  after_is : after ≡ set one (at + 1) (131072 * head_rest f m + w + 1)
  unfolding memo_words
  after_is = rw at_is refl

  one_long : length one ≡ 16384
  one_long = length-set ws at (mark_of ws p) ∙ long

  after_long : length after ≡ length ws
  after_long = ap length after_is ∙ length-set one (at + 1) (131072 * head_rest f m + w + 1) ∙ one_long ∙ sym long

  other : (i : ℕ) → (i ≡ at → ⊥) → (i ≡ at + 1 → ⊥) → get_or after i 0 ≡ get_or ws i 0
  other i a b = ap (λ (l : List ℕ). get_or l i 0) after_is ∙ get_or-set_other one (at + 1) i (131072 * head_rest f m + w + 1) 0 b ∙ get_or-set_other ws at i (mark_of ws p) 0 a

  mark_here : get_or after at 0 ≡ mark_of ws p
  mark_here =
      ap (λ (l : List ℕ). get_or l at 0) after_is ∙ get_or-set_other one (at + 1) at (131072 * head_rest f m + w + 1) 0 (λ e. omega arith)
      ∙ get_or-set_same ws at (mark_of ws p) 0 (omega (arith, slot_below))

  found_here : get_or after (at + 1) 0 ≡ 131072 * head_rest f m + w + 1
  found_here = ap (λ (l : List ℕ). get_or l (at + 1) 0) after_is ∙ get_or-set_same one (at + 1) (131072 * head_rest f m + w + 1) 0 (omega (arith, one_long, slot_below))

  pub remembers_only : MemoOnly ws after
  remembers_only = record {
    below = record { size = after_long; same = λ i l u. other i (λ e. omega arith) (λ e. omega arith) };
    above = record { size = after_long; same = λ i l u. other i (λ e. omega (arith, slot_below)) (λ e. omega (arith, slot_below)) };
  }

  module _ (book : List ℕ) (top : ℕ) (some : 0 < p) (below : p < top) (few : top ≤ 514) (mm : m ≤ 8) (ww : w < 131071) (F : Finds book ws p f m w) where
    programs_keep : Keeps 8200 (8200 + 3 * top) ws after
    programs_keep = keeps_narrow (omega arith) (omega arith) remembers_only.below

    mark_same : (q : ℕ) → q < top → mark_of after q ≡ mark_of ws q
    mark_same q b = programs_keep.same (8200 + 3 * q + 2) (omega arith) (omega arith)

    -- its own entry
    own_right : {left : ℕ} (q : ℕ) → 0 < q → q < top → mark_of ws p ≡ mark_of ws q → Memo book ws top left → EntryRight book after slot q
    own_right q a b e M g n nn i x z =
        let pq : p ≡ q = same_program (dec_lt p q) (dec_lt q p) in
        let v = found_here in
        let H = head_rest f m in
        let r : (131072 * H + w + 1) % 131072 - 1 ≡ w = omega arith in
        let h : (131072 * H + w + 1) / 131072 ≡ H = omega arith in
        let j : slot % 512 ≡ place_of (mark_of ws p) f = omega arith in
        let k : place_of (mark_of ws p) f ≡ place_of (mark_of ws p) g = sym j ∙ i ∙ ap (λ (o : ℕ). place_of o g) (mark_same q b ∙ sym e) in
        let y = rest_says (mark_of ws p) mm nn k (sym h ∙ ap (λ (o : ℕ). o / 131072) (sym v) ∙ x) in
        rw (v, r, ← y.0, ← y.1, ← pq) (finds_keeps some below programs_keep F)
      where
        same_program : Dec (p < q) → Dec (q < p) → p ≡ q
        same_program (yes h) i = absurd (let c = M.falling p q some h b in omega arith)
        same_program (no h) (yes i) = absurd (let c = M.falling q p a i below in omega arith)
        same_program (no h) (no i) = omega arith

    pub memo_remembers : {left : ℕ} → Memo book ws top left → Memo book after top left
    memo_remembers {left} M = record {
      marks = λ q a b. rw (mark_same q b) (M.marks q a b);
      falling = λ q r a b c. rw (mark_same q (omega arith), mark_same r c) (M.falling q r a b c);
      older = λ e b. old e (dec_eq e) (M.older e b);
      right = λ e q b a c s. rights e q b a c s (dec_eq e);
    }
      where
        dec_eq : (e : ℕ) → (e ≡ slot) ⊎ (e ≡ slot → ⊥)
        dec_eq e = by (dec_lt e slot) (dec_lt slot e)
          where
            by : Dec (e < slot) → Dec (slot < e) → (e ≡ slot) ⊎ (e ≡ slot → ⊥)
            by (yes h) i = inr (λ z. omega arith)
            by (no h) (yes i) = inr (λ z. omega arith)
            by (no h) (no i) = inl (omega arith)

        -- another entry
        apart : (e j : ℕ) → j < 2 → (e ≡ slot → ⊥) → get_or after (13568 + 2 * e + j) 0 ≡ get_or ws (13568 + 2 * e + j) 0
        apart e j h n = other (13568 + 2 * e + j) (λ z. n (omega arith)) (λ z. n (omega arith))

        apart_mark : (e : ℕ) → (e ≡ slot → ⊥) → get_or after (13568 + 2 * e) 0 ≡ get_or ws (13568 + 2 * e) 0
        apart_mark e n = other (13568 + 2 * e) (λ z. n (omega arith)) (λ z. n (omega arith))

        old : (e : ℕ) → (e ≡ slot) ⊎ (e ≡ slot → ⊥) → (get_or ws (13568 + 2 * e) 0 ≡ 0) ⊎ (left < get_or ws (13568 + 2 * e) 0) → (get_or after (13568 + 2 * e) 0 ≡ 0) ⊎ (left < get_or after (13568 + 2 * e) 0)
        old e (inl z) x = inr (rw (z, mark_here) (M.marks p some below))
        old e (inr n) (inl x) = inl (apart_mark e n ∙ x)
        old e (inr n) (inr x) = inr (rw (apart_mark e n) x)

        rights : (e q : ℕ) → e < 1024 → 0 < q → q < top → get_or after (13568 + 2 * e) 0 ≡ mark_of after q → (e ≡ slot) ⊎ (e ≡ slot → ⊥) → EntryRight book after e q
        rights e q b a c s (inl z) = rw z (own_right q a c (sym mark_here ∙ rw z at s ∙ mark_same q c) M)
        rights e q b a c s (inr n) =
            λ g o oo i x z.
            let y = apart e 1 (omega arith) n in
            rw y (finds_keeps a c programs_keep (M.right e q b a c (sym (apart_mark e n) ∙ s ∙ mark_same q c) g o oo (rw (mark_same q c) at i) (rw y at x) (rw y at z)))

    pub remembers_stay : MemoStays book top ws after
    remembers_stay = (remembers_only, λ left M. memo_remembers M)
