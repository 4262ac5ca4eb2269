-- What the code of the supposed runs' index writes, step by step, is what the definitions say.
use mathlib.Core.Path.{◌≡◌, refl, ◌∙◌, ap}
use mathlib.Core.List.{List}
use Prim.Native.Nat.{ℕ, zero, suc, ◌+◌, ◌-◌, ◌*◌, ◌/◌, ◌%◌, ◌^◌, ◌≤◌, ◌<◌}
use native.Mathlib.Omega.{arith}
use mathlib.Core.Bool.{true, false}
use borrow.Author.Tests.{eqb-true}
use lib.Dec.{eqb}
use lib.ListN.{get_or, set}
use Rattle.book.specs.Records.{field, records}
use Rattle.book.proofs.Accepted.{Formed}
use Rattle.words.specs.Readable.{Readable}
use Rattle.index.specs.Runs.{ClauseRun}
use Rattle.index.specs.Index.{bucket_of, head_bucket}
use Rattle.supposed.specs.Supposed.{small_bucket, note_of, note_words, mark_words, empty_run, enter_clause, run_words, supposed_words}
use Rattle.index.proofs.RunLaws.{seven_kind, suppose_run}

-- NOTES: a note v takes the place of the old one in word w, where u is the unit of its eight bits
abbrev pub NoteFits : ℕ → ℕ → ℕ → Type 0
NoteFits u w v = (0 < u) × (u * (w / u % 256) ≤ w) × (u * v < 4294967296) × (w - u * (w / u % 256) + u * v < 4294967296)

module _ (w v : ℕ) (h : w < 4294967296) (l : v < 256) where
  pub note_fits : (k : ℕ) → k < 4 → NoteFits ((1 * 2 ^ (8 * k)) % 2 ^ 32) w v
  note_fits zero z = (omega arith, omega arith, omega arith, omega arith)
  note_fits (suc zero) z = (omega arith, omega arith, omega arith, omega arith)
  note_fits (suc (suc zero)) z = (omega arith, omega arith, omega arith, omega arith)
  note_fits (suc (suc (suc zero))) z = (omega arith, omega arith, omega arith, omega arith)
  note_fits (suc (suc (suc (suc k)))) z = absurd (omega arith)

note_unit : (k : ℕ) → k < 4 → (1 * 2 ^ (8 * k)) % 2 ^ 32 ≡ 2 ^ (8 * k)
note_unit zero z = refl
note_unit (suc zero) z = refl
note_unit (suc (suc zero)) z = refl
note_unit (suc (suc (suc zero))) z = refl
note_unit (suc (suc (suc (suc k)))) z = absurd (omega arith)

module _ (ws : List ℕ) (r v : ℕ) (h : r < 4096) where
  abbrev unit : ℕ
  unit = (1 * 2 ^ (8 * (r / 1024))) % 2 ^ 32

  abbrev word : ℕ
  word = get_or ws (12304 + r % 1024) 0

  pub note_written : set ws (12304 + r % 1024) (word - unit * (word / unit % 256) + unit * v) ≡ note_words ws r v
  unfolding note_words note_of
  note_written = rw (note_unit (r / 1024) (omega arith)) refl

-- EMPTY BUCKETS
module _ (first n : ℕ) (ws₀ : List ℕ) where
  pub buckets_none : ws₀ ≡ empty_run first n 0 ws₀
  unfolding empty_run
  buckets_none = refl

  pub buckets_more : (b : ℕ) (ws ws' : List ℕ) → ws ≡ empty_run first n b ws₀ → ws' ≡ note_words ws (first + b) n → ws' ≡ empty_run first n (b + 1) ws₀
  unfolding empty_run
  buckets_more b ws ws' e q = let z : b + 1 ≡ suc b = omega arith in rw z (q ∙ ap (λ (x : List ℕ). note_words x (first + b) n) e)

-- A CLAUSE: what the code reads of it, and what it writes with that
module _ (book : List ℕ) (first n i c h f m : ℕ) (pc : c ≡ field book (first + i) 1) (ph : h ≡ field book c 4) (pf : f ≡ field book h 1) (pm : m ≡ field book h 2) where
  pub enter_written : (g : ℕ) (ws ws₁ ws₂ ws₃ : List ℕ) (s next b : ℕ) → s ≡ small_bucket n f m → next ≡ note_of ws (first + s) → ws₁ ≡ note_words ws c next → ws₂ ≡ note_words ws₁ (first + s) i
      → b ≡ head_bucket f m → ws₃ ≡ mark_words ws₂ b g → ws₃ ≡ enter_clause book g first n i ws
  unfolding enter_clause bucket_of
  enter_written g ws ws₁ ws₂ ws₃ s next b ps pn p₁ p₂ pb p₃ = rw (p₃, p₂, p₁, pn, ps, pb, pm, pf, ph, pc) refl

-- A RUN, the last clause first
module _ (book : List ℕ) (s first n : ℕ) (ws₀ : List ℕ) where
  pub run_none : (ws : List ℕ) → ws ≡ empty_run first n n ws₀ → ws ≡ run_words book s first n (n - n) ws₀
  unfolding run_words
  run_none ws e = let z : n - n ≡ 0 = omega arith in rw z e

  pub run_more : (i : ℕ) (ws ws' : List ℕ) → 0 < i → i ≤ n → ws ≡ run_words book s first n (n - i) ws₀ → ws' ≡ enter_clause book s first n (i - 1) ws → ws' ≡ run_words book s first n (n - (i - 1)) ws₀
  unfolding run_words
  run_more i ws ws' h l e q =
      let z : n - (i - 1) ≡ suc (n - i) = omega arith in
      let y : n - suc (n - i) ≡ i - 1 = omega arith in
      rw (z, run_words, y) (q ∙ ap (enter_clause book s first n (i - 1)) e)

-- ALL RUNS: what the code reads of suppose goal s
module _ (book : List ℕ) (s first n : ℕ) (e : eqb (field book s 0) 7 ≡ true) (pf : first ≡ field book s 1) (pn : n ≡ field book s 2) where
  pub supposed_ready : Readable book → Formed book → s < records book → ClauseRun book first n × (0 < n) × (n ≤ 64) × (first + n ≤ 4096)
  supposed_ready R F h = rw (pf, pn) (suppose_run book R F s h (seven_kind book s (eqb-true _ _ e)))

  -- that s is the loop's record t is a fact of its own
  pub supposed_more : (t : ℕ) → t ≡ s → (ws₀ ws ws' : List ℕ) → ws ≡ supposed_words book t ws₀ → ws' ≡ run_words book s first n n ws → ws' ≡ supposed_words book (t + 1) ws₀
  unfolding supposed_words
  supposed_more t same ws₀ ws ws' p q =
      let z : t + 1 ≡ suc s = omega arith in
      rw (z, supposed_words, e, ← pf, ← pn, ← (rw same at p)) q

pub supposed_none : (book : List ℕ) (ws₀ : List ℕ) → ws₀ ≡ supposed_words book 0 ws₀
unfolding supposed_words
supposed_none book ws₀ = refl

pub supposed_on : (book : List ℕ) (s : ℕ) → eqb (field book s 0) 7 ≡ false → (t : ℕ) → t ≡ s → (ws₀ ws : List ℕ) → ws ≡ supposed_words book t ws₀ → ws ≡ supposed_words book (t + 1) ws₀
unfolding supposed_words
supposed_on book s e t same ws₀ ws p =
    let z : t + 1 ≡ suc s = omega arith in
    rw (z, supposed_words, e) (rw same at p)
