-- Entering a clause.
use mathlib.Core.Path.{◌≡◌, refl}
use mathlib.Core.List.{List, []}
use Prim.Native.Nat.{ℕ, ◌+◌}
use native.Mathlib.Omega.{arith}
use Rattle.book.specs.Records.{field}
use Rattle.book.specs.Decode.{arguments_of}
use Rattle.words.specs.Readable.{Readable}
use Rattle.words.specs.Good.{Slots}
use Rattle.words.specs.Frame.{clear_words, TrailFits}
use Rattle.words.proofs.StackLaws.{keeps_narrow}
use Rattle.unifier.specs.declared.Unified.{Unified}
use Rattle.looks.specs.Runs.{run_terms}
use Rattle.unifier.specs.PairRuns.{pair_run}
use Rattle.unifier.specs.Pairs.{Ends, at_runs}
use Rattle.branch.specs.Entries.{put_ties}
use Rattle.branch.proofs.EntryLaws.{entered, entered_below, entered_above, entered_store, entered_slots, entered_fits}
use Rattle.steps.specs.Enters.{EnterReady, Enters}

module _ (book : List ℕ) (R : Readable book) (made trail : ℕ) (ws : List ℕ) (a e c o : ℕ) (X : EnterReady book made trail ws a e c o) where
  abbrev made_here : List ℕ
  made_here = entered book made (field book c 1) o (field book c 2) (field book c 3) ws X.slots X.room X.ties

  mid_is : (n first t : ℕ) (ws₁ ws₂ : List ℕ) → n ≡ field book c 1 → first ≡ field book c 2 → t ≡ field book c 3
      → ws₁ ≡ clear_words made n ws → ws₂ ≡ put_ties book made o first t ws₁ → ws₂ ≡ made_here
  mid_is n first t ws₁ ws₂ p q r v w = rw (w, v, p, q, r) refl

  slots_here : Slots book (made + field book c 1) made_here
  slots_here = entered_slots book made (field book c 1) o (field book c 2) (field book c 3) ws X.slots X.room X.ties

  fits_here : TrailFits (made + field book c 1) trail made_here
  fits_here = entered_fits book made (field book c 1) o (field book c 2) (field book c 3) ws X.slots X.room X.ties trail X.fits

  pub slots_ready : (n first t : ℕ) (ws₁ ws₂ : List ℕ) → n ≡ field book c 1 → first ≡ field book c 2 → t ≡ field book c 3
      → ws₁ ≡ clear_words made n ws → ws₂ ≡ put_ties book made o first t ws₁ → Slots book (made + n) ws₂ × TrailFits (made + n) trail ws₂
  slots_ready n first t ws₁ ws₂ p q r v w = rw (mid_is n first t ws₁ ws₂ p q r v w, p) (slots_here, fits_here)

  pub entering_ends : (n first t h m f g : ℕ) (ws₁ ws₂ ws₃ : List ℕ) (left : ℕ) (z : Unified) → n ≡ field book c 1 → first ≡ field book c 2 → t ≡ field book c 3 → h ≡ field book c 4 → m ≡ field book a 2
      → f ≡ field book a 3 → g ≡ field book h 3 → ws₁ ≡ clear_words made n ws → ws₂ ≡ put_ties book made o first t ws₁
      → Ends book (made + n) trail ws₂ ws₃ left (at_runs book e f made g m) [] z → Enters book made trail ws ws₃ a e c o left z
  unfolding arguments_of pair_run run_terms
  entering_ends n first t h m f g ws₁ ws₂ ws₃ left z p q r s u x y v w E = record {
    mid = made_here;
    below = entered_below book made (field book c 1) o (field book c 2) (field book c 3) ws X.slots X.room X.ties;
    above = keeps_narrow X.room (omega arith) (entered_above book made (field book c 1) o (field book c 2) (field book c 3) ws X.slots X.room X.ties 15616);
    store = entered_store book made (field book c 1) o (field book c 2) (field book c 3) ws X.slots X.room X.ties;
    slots = slots_here;
    fits = fits_here;
    ends = rw (← X.counts) (rw (mid_is n first t ws₁ ws₂ p q r v w, y, x, s, p, u) at E);
  }
