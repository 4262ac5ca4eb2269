-- What the code of taking a goal writes.
use mathlib.Core.Path.{◌≡◌, refl}
use mathlib.Core.List.{List}
use Prim.Native.Nat.{ℕ, ◌+◌, ◌*◌}
use Rattle.book.specs.Records.{field}
use Rattle.words.specs.Words.{term_word}
use Rattle.branch.specs.State.{put_cell, flag}
use Rattle.branch.specs.Alternatives.{keep_words}
use Rattle.steps.specs.declared.Branch.{Branch as Held}
use Rattle.steps.specs.declared.Regs.{Regs}
use Rattle.taking.specs.declared.Cell.{Cell}
use Rattle.taking.specs.Takes.{and_words, or_kept, or_words, put_program, suppose_words}

module _ (book : List ℕ) (r : Regs) (x : Cell) (ws ws₁ : List ℕ) where
  pub and_written : (ws₂ : List ℕ) (left right : ℕ) → left ≡ field book x.goal 1 → right ≡ field book x.goal 2
      → ws₁ ≡ put_cell r.cells (4096 * (right + 1) + x.base) x.program x.next ws
      → ws₂ ≡ put_cell (r.cells + 1) (4096 * (left + 1) + x.base) x.program r.cells ws₁ → ws₂ ≡ and_words book r x ws
  unfolding and_words term_word
  and_written ws₂ left right a b c d = rw (d, c, a, b) refl

  pub or_written : (held : Held) (ws₂ ws₃ : List ℕ) (left right s : ℕ) → left ≡ field book x.goal 1 → right ≡ field book x.goal 2 → s ≡ flag held.supposed
      → ws₁ ≡ put_cell r.cells (4096 * (right + 1) + x.base) x.program x.next ws
      → ws₂
      ≡ keep_words ws₁ r.alternatives
      (record {
        made = r.made;
        trail = r.trail;
        cells = r.cells + 1;
        programs = r.programs;
        cell = r.cells;
        taken = held.taken + 1;
        supposed = s;
        atom = 0;
        call = 0;
        node = 0;
        index = 0;
      })
      → ws₃ ≡ put_cell (r.cells + 1) (4096 * (left + 1) + x.base) x.program x.next ws₂ → ws₃ ≡ or_words book r held x ws
  unfolding or_words or_kept term_word
  or_written held ws₂ ws₃ left right s a b e c d f = rw (f, d, c, a, b, e) refl

  pub suppose_written : (ws₂ : List ℕ) (goal left : ℕ) → goal ≡ field book x.goal 3
      → ws₁ ≡ put_program r.programs (4096 * (x.goal + 1) + x.base) x.program left ws
      → ws₂ ≡ put_cell r.cells (4096 * (goal + 1) + x.base) r.programs x.next ws₁ → ws₂ ≡ suppose_words book r x left ws
  unfolding suppose_words term_word
  suppose_written ws₂ goal left a b c = rw (c, b, a) refl
