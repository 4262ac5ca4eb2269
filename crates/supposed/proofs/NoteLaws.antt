-- Laws of notes and marks: what is noted is read and touches nothing else; a mark stays, and leaves the rest of its word. And that the buckets of clauses are in range.
use mathlib.Core.Path.{◌≡◌, refl, sym, ◌∙◌, ap}
use mathlib.Core.Logic.{◌⊎◌, inl, inr}
use mathlib.Core.Bool.{true, false}
use mathlib.Core.List.{List}
use Prim.Native.Nat.{ℕ, zero, suc, ◌+◌, ◌-◌, ◌*◌, ◌/◌, ◌%◌, ◌^◌, ◌≤◌, ◌<◌}
use native.Mathlib.Omega.{arith}
use native.Mathlib.Decide.{ℕ_discrete}
use native.Mathlib.Nat.{mul-le-mul_right}
use borrow.Author.Tests.{lt-ltb, le-ltb, ltb-true, ltb-false}
use lib.Dec.{ltb}
use lib.ListN.{length, get_or, set, length-set}
use lib.Seq.{get_or-set_same, get_or-set_other}
use Rattle.words.specs.Frame.{Keeps}
use Rattle.words.proofs.StackLaws.{keeps_refl, keeps_set}
use Rattle.index.specs.Index.{bucket_of, head_bucket}
use Rattle.supposed.specs.Supposed.{small_bucket, note_of, note_words, marked, marked_by, mark_words}

-- BUCKETS ARE IN RANGE
pub head_small : (book : List ℕ) (first i : ℕ) → bucket_of head_bucket book first i < 1024
unfolding bucket_of
head_small book first i = omega arith

-- a part of n, in 64ths
part_most : (x n : ℕ) → x < 64 → x * n ≤ 63 * n
part_most x n h = mul-le-mul_right n (omega arith)

part_below : (x n : ℕ) → x < 64 → 0 < n → x * n / 64 < n
part_below x n h p = omega (arith, part_most x n h)

pub bucket_small : (book : List ℕ) (first n i : ℕ) → 0 < n → bucket_of (small_bucket n) book first i < n
unfolding bucket_of
bucket_small book first n i h = part_below _ n (omega arith) h

-- ONE OF FOUR NUMBERS IN A WORD

-- number q of word w
abbrev part : ℕ → ℕ → ℕ
part w q = w / 2 ^ (8 * q) % 256

-- v in its place
abbrev put : ℕ → ℕ → ℕ → ℕ
put w q v = w - 2 ^ (8 * q) * part w q + 2 ^ (8 * q) * v

put_here : (w q v : ℕ) → q < 4 → v < 256 → part (put w q v) q ≡ v
put_here w zero v h l = omega arith
put_here w (suc zero) v h l = omega arith
put_here w (suc (suc zero)) v h l = omega arith
put_here w (suc (suc (suc zero))) v h l = omega arith
put_here w (suc (suc (suc (suc q)))) v h l = absurd (omega arith)

put_other : (w q p v : ℕ) → q < 4 → p < 4 → v < 256 → (q ≡ p → ⊥) → part (put w q v) p ≡ part w p
put_other w zero zero v h k l d = absurd (d refl)
put_other w zero (suc zero) v h k l d = omega arith
put_other w zero (suc (suc zero)) v h k l d = omega arith
put_other w zero (suc (suc (suc zero))) v h k l d = omega arith
put_other w zero (suc (suc (suc (suc p)))) v h k l d = absurd (omega arith)
put_other w (suc zero) zero v h k l d = omega arith
put_other w (suc zero) (suc zero) v h k l d = absurd (d refl)
put_other w (suc zero) (suc (suc zero)) v h k l d = omega arith
put_other w (suc zero) (suc (suc (suc zero))) v h k l d = omega arith
put_other w (suc zero) (suc (suc (suc (suc p)))) v h k l d = absurd (omega arith)
put_other w (suc (suc zero)) zero v h k l d = omega arith
put_other w (suc (suc zero)) (suc zero) v h k l d = omega arith
put_other w (suc (suc zero)) (suc (suc zero)) v h k l d = absurd (d refl)
put_other w (suc (suc zero)) (suc (suc (suc zero))) v h k l d = omega arith
put_other w (suc (suc zero)) (suc (suc (suc (suc p)))) v h k l d = absurd (omega arith)
put_other w (suc (suc (suc zero))) zero v h k l d = omega arith
put_other w (suc (suc (suc zero))) (suc zero) v h k l d = omega arith
put_other w (suc (suc (suc zero))) (suc (suc zero)) v h k l d = omega arith
put_other w (suc (suc (suc zero))) (suc (suc (suc zero))) v h k l d = absurd (d refl)
put_other w (suc (suc (suc zero))) (suc (suc (suc (suc p)))) v h k l d = absurd (omega arith)
put_other w (suc (suc (suc (suc q)))) p v h k l d = absurd (omega arith)

-- NOTES
pub note_length : (ws : List ℕ) (r v : ℕ) → length (note_words ws r v) ≡ length ws
unfolding note_words
note_length ws r v = length-set ws (12304 + r % 1024) _

pub note_small : (ws : List ℕ) (r : ℕ) → note_of ws r < 256
unfolding note_of
note_small ws r = omega arith

pub note_here : (ws : List ℕ) (r v : ℕ) → length ws ≡ 16384 → r < 4096 → v < 256 → note_of (note_words ws r v) r ≡ v
unfolding note_of note_words
note_here ws r v s h l =
    let w = get_or ws (12304 + r % 1024) 0 in
    ap (λ (x : ℕ). part x (r / 1024)) (get_or-set_same ws (12304 + r % 1024) (put w (r / 1024) v) 0 (omega arith)) ∙ put_here w (r / 1024) v (omega arith) l

pub note_other : (ws : List ℕ) (r s v : ℕ) → length ws ≡ 16384 → r < 4096 → s < 4096 → v < 256 → (r ≡ s → ⊥) → note_of (note_words ws r v) s ≡ note_of ws s
unfolding note_of note_words
note_other ws r s v n h k l d = go (ℕ_discrete (r % 1024) (s % 1024))
  where
    w : ℕ
    w = get_or ws (12304 + r % 1024) 0

    go : Dec (r % 1024 ≡ s % 1024) → part (get_or (set ws (12304 + r % 1024) (put w (r / 1024) v)) (12304 + s % 1024) 0) (s / 1024) ≡ part (get_or ws (12304 + s % 1024) 0) (s / 1024)
    go (yes e) =
        rw (sym e) (ap (λ (x : ℕ). part x (s / 1024)) (get_or-set_same ws (12304 + r % 1024) (put w (r / 1024) v) 0 (omega arith))
        ∙ put_other w (r / 1024) (s / 1024) v (omega arith) (omega arith) l (λ z. d (omega (arith, e, z))))
    go (no e) = ap (λ (x : ℕ). part x (s / 1024)) (get_or-set_other ws (12304 + r % 1024) (12304 + s % 1024) (put w (r / 1024) v) 0 (λ z. e (omega (arith, z))))

pub note_keeps : (lo hi : ℕ) (ws : List ℕ) (r v : ℕ) → (hi ≤ 12304) ⊎ (13328 ≤ lo) → Keeps lo hi ws (note_words ws r v)
unfolding note_words
note_keeps lo hi ws r v (inl h) = keeps_set lo hi ws (12304 + r % 1024) _ (inr (omega arith))
note_keeps lo hi ws r v (inr h) = keeps_set lo hi ws (12304 + r % 1024) _ (inl (omega arith))

pub note_same : {ws ws' : List ℕ} (r : ℕ) → Keeps 12304 13328 ws ws' → note_of ws' r ≡ note_of ws r
unfolding note_of
note_same r K = ap (λ (x : ℕ). part x (r / 1024)) (K.same (12304 + r % 1024) (omega arith) (omega arith))

-- THE EIGHT CLASSES OF SUPPOSE GOALS: what holds of each holds of that of any goal
module _ (P : ℕ → Type 0) (p₀ : P 0) (p₁ : P 1) (p₂ : P 2) (p₃ : P 3) (p₄ : P 4) (p₅ : P 5) (p₆ : P 6) (p₇ : P 7) where
  class_at : (j : ℕ) → j < 8 → P j
  class_at zero h = p₀
  class_at (suc zero) h = p₁
  class_at (suc (suc zero)) h = p₂
  class_at (suc (suc (suc zero))) h = p₃
  class_at (suc (suc (suc (suc zero)))) h = p₄
  class_at (suc (suc (suc (suc (suc zero))))) h = p₅
  class_at (suc (suc (suc (suc (suc (suc zero)))))) h = p₆
  class_at (suc (suc (suc (suc (suc (suc (suc zero))))))) h = p₇
  class_at (suc (suc (suc (suc (suc (suc (suc (suc j)))))))) h = absurd (omega arith)

  class_cases : (s : ℕ) → P (s % 8)
  class_cases s = class_at (s % 8) (omega arith)

-- the bit of class j of word w
abbrev bit : ℕ → ℕ → ℕ
bit w j = w / 2 ^ (11 + j) % 2

-- the code's unit of the bit
pub class_unit : (s : ℕ) → (2048 * 2 ^ (s % 8)) % 2 ^ 32 ≡ 2 ^ (11 + s % 8)
class_unit = class_cases (λ (j : ℕ). (2048 * 2 ^ j) % 2 ^ 32 ≡ 2 ^ (11 + j)) refl refl refl refl refl refl refl refl

pub class_some : (s : ℕ) → 0 < 2 ^ (11 + s % 8)
class_some = class_cases (λ (j : ℕ). 0 < 2 ^ (11 + j)) (omega arith) (omega arith) (omega arith) (omega arith) (omega arith) (omega arith) (omega arith) (omega arith)

-- a bit that was not set is set: the number and the record stay, and the word is one of 32 bits
abbrev BitPut : ℕ → Type 0
BitPut j =
    (w : ℕ) → bit w j ≡ 0
    → ((w + 2 ^ (11 + j)) % 2048 ≡ w % 2048) × ((w + 2 ^ (11 + j)) / 1048576 ≡ w / 1048576) × (0 < bit (w + 2 ^ (11 + j)) j) × (w < 4294967296 → w + 2 ^ (11 + j) < 4294967296)

pub bit_put : (s : ℕ) → BitPut (s % 8)
bit_put =
    class_cases BitPut
    (λ w h. (omega arith, omega arith, omega arith, λ l. omega arith))
    (λ w h. (omega arith, omega arith, omega arith, λ l. omega arith))
    (λ w h. (omega arith, omega arith, omega arith, λ l. omega arith))
    (λ w h. (omega arith, omega arith, omega arith, λ l. omega arith))
    (λ w h. (omega arith, omega arith, omega arith, λ l. omega arith))
    (λ w h. (omega arith, omega arith, omega arith, λ l. omega arith))
    (λ w h. (omega arith, omega arith, omega arith, λ l. omega arith))
    (λ w h. (omega arith, omega arith, omega arith, λ l. omega arith))

-- and a bit that was set stays
abbrev Stays : ℕ → ℕ → Type 0
Stays j k = (w : ℕ) → bit w j ≡ 0 → 0 < bit w k → 0 < bit (w + 2 ^ (11 + j)) k

-- above the bit nothing changes
above : (j k : ℕ) → ((w : ℕ) → bit w j ≡ 0 → (w + 2 ^ (11 + j)) / 2 ^ (11 + k) ≡ w / 2 ^ (11 + k)) → Stays j k
above j k q w h l = rw (q w h) l

bit_stays : (s t : ℕ) → Stays (s % 8) (t % 8)
bit_stays s t =
    class_cases (λ (j : ℕ). Stays j (t % 8))
    (class_cases (Stays 0) (λ w h l. omega arith) (above 0 1 (λ w h. omega arith)) (above 0 2 (λ w h. omega arith)) (above 0 3 (λ w h. omega arith)) (above 0 4 (λ w h. omega arith)) (above 0 5 (λ w h. omega arith)) (above 0 6 (λ w h. omega arith)) (above 0 7 (λ w h. omega arith)) t)
    (class_cases (Stays 1) (λ w h l. omega arith) (λ w h l. omega arith) (above 1 2 (λ w h. omega arith)) (above 1 3 (λ w h. omega arith)) (above 1 4 (λ w h. omega arith)) (above 1 5 (λ w h. omega arith)) (above 1 6 (λ w h. omega arith)) (above 1 7 (λ w h. omega arith)) t)
    (class_cases (Stays 2) (λ w h l. omega arith) (λ w h l. omega arith) (λ w h l. omega arith) (above 2 3 (λ w h. omega arith)) (above 2 4 (λ w h. omega arith)) (above 2 5 (λ w h. omega arith)) (above 2 6 (λ w h. omega arith)) (above 2 7 (λ w h. omega arith)) t)
    (class_cases (Stays 3) (λ w h l. omega arith) (λ w h l. omega arith) (λ w h l. omega arith) (λ w h l. omega arith) (above 3 4 (λ w h. omega arith)) (above 3 5 (λ w h. omega arith)) (above 3 6 (λ w h. omega arith)) (above 3 7 (λ w h. omega arith)) t)
    (class_cases (Stays 4) (λ w h l. omega arith) (λ w h l. omega arith) (λ w h l. omega arith) (λ w h l. omega arith) (λ w h l. omega arith) (above 4 5 (λ w h. omega arith)) (above 4 6 (λ w h. omega arith)) (above 4 7 (λ w h. omega arith)) t)
    (class_cases (Stays 5) (λ w h l. omega arith) (λ w h l. omega arith) (λ w h l. omega arith) (λ w h l. omega arith) (λ w h l. omega arith) (λ w h l. omega arith) (above 5 6 (λ w h. omega arith)) (above 5 7 (λ w h. omega arith)) t)
    (class_cases (Stays 6) (λ w h l. omega arith) (λ w h l. omega arith) (λ w h l. omega arith) (λ w h l. omega arith) (λ w h l. omega arith) (λ w h l. omega arith) (λ w h l. omega arith) (above 6 7 (λ w h. omega arith)) t)
    (class_cases (Stays 7) (λ w h l. omega arith) (λ w h l. omega arith) (λ w h l. omega arith) (λ w h l. omega arith) (λ w h l. omega arith) (λ w h l. omega arith) (λ w h l. omega arith) (λ w h l. omega arith) t)
    s

-- where no bit is set, that of a class is not
bit_none : (s w : ℕ) → w / 2048 % 256 ≤ 0 → bit w (s % 8) ≤ 0
bit_none = class_cases (λ (j : ℕ). (w : ℕ) → w / 2048 % 256 ≤ 0 → bit w j ≤ 0) (λ w h. omega arith) (λ w h. omega arith) (λ w h. omega arith) (λ w h. omega arith) (λ w h. omega arith) (λ w h. omega arith) (λ w h. omega arith) (λ w h. omega arith)

-- MARKS
module _ (ws : List ℕ) (b s : ℕ) where
  abbrev old : ℕ
  old = get_or ws (4096 + b) 0

  pub mark_put : bit old (s % 8) ≡ 0 → set ws (4096 + b) (old + 2 ^ (11 + s % 8)) ≡ mark_words ws b s
  unfolding mark_words marked_by
  mark_put e = rw (mark_words, marked_by, le-ltb 0 (bit old (s % 8)) (omega (arith, e))) refl

  pub mark_there : (bit old (s % 8) ≡ 0 → ⊥) → ws ≡ mark_words ws b s
  unfolding mark_words marked_by
  mark_there e = rw (mark_words, marked_by, lt-ltb 0 (bit old (s % 8)) (omega (arith, e))) refl

  -- what holds of either holds
  by_mark : (P : List ℕ → Type 0) → (bit old (s % 8) ≡ 0 → P (set ws (4096 + b) (old + 2 ^ (11 + s % 8)))) → ((bit old (s % 8) ≡ 0 → ⊥) → P ws) → P (mark_words ws b s)
  by_mark P f g = go (ℕ_discrete (bit old (s % 8)) 0)
    where
      go : Dec (bit old (s % 8) ≡ 0) → P (mark_words ws b s)
      go (yes e) = rw (← mark_put e) (f e)
      go (no e) = rw (← mark_there e) (g e)

  pub mark_length : length (mark_words ws b s) ≡ length ws
  mark_length = by_mark (λ (x : List ℕ). length x ≡ length ws) (λ e. length-set ws (4096 + b) _) (λ e. refl)

pub mark_keeps : (lo hi : ℕ) (ws : List ℕ) (b s : ℕ) → b < 1024 → (hi ≤ 4096) ⊎ (5120 ≤ lo) → Keeps lo hi ws (mark_words ws b s)
mark_keeps lo hi ws b s h o = by_mark ws b s (λ (x : List ℕ). Keeps lo hi ws x) (λ e. keeps_set lo hi ws (4096 + b) _ (outside o)) (λ e. keeps_refl lo hi ws)
  where
    outside : (hi ≤ 4096) ⊎ (5120 ≤ lo) → (4096 + b < lo) ⊎ (hi ≤ 4096 + b)
    outside (inl l) = inr (omega arith)
    outside (inr l) = inl (omega arith)

-- a word stays, or the bit of goal s's class is set
abbrev StaysOrSet : ℕ → ℕ → ℕ → Type 0
StaysOrSet s w w' = (w' ≡ w) ⊎ ((w' ≡ w + 2 ^ (11 + s % 8)) × (bit w (s % 8) ≡ 0))

bit_set : (ws : List ℕ) (b s : ℕ) → 0 < bit (get_or ws (4096 + b) 0) (s % 8) → marked_by ws b s ≡ true
unfolding marked_by
bit_set ws b s h = lt-ltb 0 _ h

module _ (ws : List ℕ) (b s c : ℕ) (l : length ws ≡ 16384) (h : b < 1024) (k : c < 1024) where
  abbrev before : ℕ
  before = get_or ws (4096 + c) 0

  abbrev after : ℕ
  after = get_or (mark_words ws b s) (4096 + c) 0

  word_marked : StaysOrSet s before after
  word_marked = by_mark ws b s (λ (x : List ℕ). StaysOrSet s before (get_or x (4096 + c) 0)) (λ e. go e (ℕ_discrete b c)) (λ e. inl refl)
    where
      go : bit (get_or ws (4096 + b) 0) (s % 8) ≡ 0 → Dec (b ≡ c) → StaysOrSet s before (get_or (set ws (4096 + b) (get_or ws (4096 + b) 0 + 2 ^ (11 + s % 8))) (4096 + c) 0)
      go e (yes d) = rw (← d) (inr (get_or-set_same ws (4096 + b) _ 0 (omega arith), e))
      go e (no d) = inl (get_or-set_other ws (4096 + b) (4096 + c) _ 0 (λ z. d (omega (arith, z))))

  pub mark_number : after % 2048 ≡ before % 2048
  mark_number = go word_marked
    where
      go : StaysOrSet s before after → after % 2048 ≡ before % 2048
      go (inl e) = rw e refl
      go (inr e) = rw e.0 (bit_put s before e.1).0

  pub mark_clause : after / 1048576 ≡ before / 1048576
  mark_clause = go word_marked
    where
      go : StaysOrSet s before after → after / 1048576 ≡ before / 1048576
      go (inl e) = rw e refl
      go (inr e) = rw e.0 (bit_put s before e.1).1

  pub mark_stays : (t : ℕ) → marked_by ws c t ≡ true → marked_by (mark_words ws b s) c t ≡ true
  unfolding marked_by
  mark_stays t m = go word_marked
    where
      go : StaysOrSet s before after → ltb 0 (bit after (t % 8)) ≡ true
      go (inl e) = rw e m
      go (inr e) = lt-ltb 0 (bit after (t % 8)) (rw e.0 (bit_stays s t before e.1 (ltb-true 0 (bit before (t % 8)) m)))

pub mark_here : (ws : List ℕ) (b s : ℕ) → length ws ≡ 16384 → b < 1024 → marked_by (mark_words ws b s) b s ≡ true
mark_here ws b s l h =
    by_mark ws b s (λ (x : List ℕ). marked_by x b s ≡ true)
    (λ e. bit_set _ b s (rw (get_or-set_same ws (4096 + b) (get_or ws (4096 + b) 0 + 2 ^ (11 + s % 8)) 0 (omega arith)) (bit_put s (get_or ws (4096 + b) 0) e).2))
    (λ e. bit_set ws b s (omega (arith, e)))

pub marked_same : {ws ws' : List ℕ} (b s : ℕ) → b < 1024 → Keeps 4096 5120 ws ws' → marked_by ws' b s ≡ marked_by ws b s
unfolding marked_by
marked_same b s h K = ap (λ (x : ℕ). ltb 0 (bit x (s % 8))) (K.same (4096 + b) (omega arith) (omega arith))

-- a bucket that is not marked is marked for no class
pub marked_by_none : (ws : List ℕ) (b s : ℕ) → marked ws b ≡ false → marked_by ws b s ≡ false
unfolding marked marked_by
marked_by_none ws b s u = le-ltb 0 _ (bit_none s (get_or ws (4096 + b) 0) (ltb-false 0 (get_or ws (4096 + b) 0 / 2048 % 256) u))

-- NOTES AND MARKS
pub mark_note : (ws : List ℕ) (b s r : ℕ) → b < 1024 → note_of (mark_words ws b s) r ≡ note_of ws r
mark_note ws b s r h = note_same r (mark_keeps 12304 13328 ws b s h (inr (omega arith)))

pub note_marked : (ws : List ℕ) (r v b s : ℕ) → b < 1024 → marked_by (note_words ws r v) b s ≡ marked_by ws b s
note_marked ws r v b s h = marked_same b s h (note_keeps 4096 5120 ws r v (inl (omega arith)))
