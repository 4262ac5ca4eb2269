-- The workspace after the tests: where it is all zero, and where it is as test 6 has left it.
use mathlib.Core.Bool.{Bool, true, false}
use mathlib.Core.List.{List}
use mathlib.Core.Path.{◌≡◌, refl, sym, ◌∙◌, ap}
use Prim.Native.Nat.{ℕ}
use lib.ListN.{length, replicate}
use Rattle.std.proofs.Common.{Ok, Err, is_err}
use Rattle.book.specs.declared.Refusal.{Refusal}
use Rattle.book.specs.declared.Test.TheVariants.{Room}
use Rattle.book.specs.Scan.{Verdict, refused}
use Rattle.book.specs.Refusals.{room_fits, book_verdict, verdict}
use Rattle.book.proofs.ScanLaws.{refused_not_fine}
use Rattle.pointing.specs.Marks.{counted_words}
use Rattle.refusals.proofs.PassLaws.{never}
use Rattle.refusals.specs.Passes.{refusing, book_words, tested_words, words_after}

pub refused_not_passed {ℓ} : {X : Type ℓ} (v : Verdict) (e : Refusal) → v ≡ Err e → refusing v ≡ false → X
unfolding refusing
refused_not_passed (Err e) f q p = never (sym p)
refused_not_passed (Ok u) f q p = refused_not_fine (sym q)

pub refusing_is : (v : Verdict) → refusing v ≡ is_err v
unfolding refusing
refusing_is (Ok u) = refl
refusing_is (Err e) = refl

-- tests 2 to 7: v is what they said
module _ (book ws after : List ℕ) (v : Verdict) (e : v ≡ book_verdict book) where
  pub book_refused : (n : ℕ) → refusing v ≡ true → n ≡ length ws → after ≡ replicate n 0 → after ≡ book_words (book_verdict book) book ws
  unfolding book_words
  book_refused n f k z = z ∙ ap (λ (m : ℕ). replicate m 0) k ∙ ap (λ (b : Bool). elim b [ true ↦ replicate (length ws) 0 | false ↦ counted_words book ws ]) (sym f ∙ ap refusing e)

  pub book_fine : refusing v ≡ false → after ≡ counted_words book ws → after ≡ book_words (book_verdict book) book ws
  unfolding book_words
  book_fine f z = z ∙ ap (λ (b : Bool). elim b [ true ↦ replicate (length ws) 0 | false ↦ counted_words book ws ]) (sym f ∙ ap refusing e)

module _ (ws book : List ℕ) (buffer wanted : ℕ) where
  -- test 1
  pub room_refused : room_fits (length ws) buffer wanted ≡ false
      → (refused Room 0 ≡ verdict (length ws) buffer wanted book) × (ws ≡ tested_words (room_fits (length ws) buffer wanted) book ws)
  unfolding verdict tested_words
  room_refused h = (rw (verdict, h), rw (tested_words, h))

  pub room_taken : room_fits (length ws) buffer wanted ≡ true
      → (book_verdict book ≡ verdict (length ws) buffer wanted book) × (book_words (book_verdict book) book ws ≡ tested_words (room_fits (length ws) buffer wanted) book ws)
  unfolding verdict tested_words
  room_taken h = (rw (verdict, h), rw (tested_words, h))

  -- a refusal has cleared what is to be cleared
  pub tested_refused : (v : Verdict) (x : Refusal) (after : List ℕ) → v ≡ verdict (length ws) buffer wanted book → v ≡ Err x
      → after ≡ tested_words (room_fits (length ws) buffer wanted) book ws → after ≡ words_after (room_fits (length ws) buffer wanted) ws
  unfolding verdict tested_words words_after book_words refusing
  tested_refused v x after e f g = g ∙ go (room_fits (length ws) buffer wanted) (sym e ∙ f)
    where
      go : (b : Bool) → ◌≡◌ {A = Verdict} (elim b [ true ↦ book_verdict book | false ↦ refused Room 0 ]) (Err x)
          → ◌≡◌ {A = List ℕ} (elim b [ true ↦ book_words (book_verdict book) book ws | false ↦ ws ]) (elim b [ true ↦ replicate (length ws) 0 | false ↦ ws ])
      go true q = ap (λ (x : Verdict). book_words x book ws) q
      go false q = refl

  -- a call that is fine passed test 1
  pub tested_fine : (v : Verdict) (u : Unit {0}) → v ≡ verdict (length ws) buffer wanted book → v ≡ Ok u → replicate (length ws) 0 ≡ words_after (room_fits (length ws) buffer wanted) ws
  unfolding verdict words_after
  tested_fine v u e f = go (room_fits (length ws) buffer wanted) (sym e ∙ f)
    where
      go : (b : Bool) → ◌≡◌ {A = Verdict} (elim b [ true ↦ book_verdict book | false ↦ refused Room 0 ]) (Ok u) → ◌≡◌ {A = List ℕ} (replicate (length ws) 0) (elim b [ true ↦ replicate (length ws) 0 | false ↦ ws ])
      go true q = refl
      go false q = refused_not_fine q
