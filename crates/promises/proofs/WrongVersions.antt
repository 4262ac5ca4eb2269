-- Versions that cannot be: of each wrong version of document 01's last section, that it does not keep the contract, whatever else it does. The books are C2 and C10.
use mathlib.Core.Path.{◌≡◌, refl, sym, ◌∙◌, ap}
use mathlib.Core.Logic.{◌≢◌}
use mathlib.Core.List.{List, [], ◌∷◌}
use Prim.Native.Nat.{ℕ, suc}
use native.Mathlib.Omega.{arith}
use lib.ListN.{length, replicate, get_or}
use Rattle.std.proofs.Common.{Result, Ok, Err}
use Rattle.book.specs.declared.Refusal.{Refusal}
use Rattle.book.specs.Scan.{Verdict}
use Rattle.book.specs.Refusals.{test_number, verdict_numbers}
use Rattle.machine.specs.declared.Tally.{Tally}
use Rattle.machine.specs.declared.Ending.{Ending}
use Rattle.machine.specs.Call.{Called, call, reply_numbers}
use Rattle.questions.specs.Building.{book_of}
use Rattle.questions.specs.Books.{a, b, c2, c10}
use Rattle.questions.specs.Asked.{printed, asked, reply_to, four}
use Rattle.questions.proofs.Replies.{replied_as_said}
use Rattle.promises.specs.Promises.{Allowed, verdict_on, Promises}
use Rattle.promises.proofs.Kept.{promises_kept}

-- a version of `solve`, and that it keeps the contract
abbrev Version : Type 0
Version = List ℕ → ℕ → ℕ → List ℕ → List ℕ → Called

abbrev KeepsContract : Version → Type 0
KeepsContract f = (book : List ℕ) (budget wanted : ℕ) (ws out : List ℕ)
    → Allowed book budget wanted ws out (f book budget wanted ws out).reply (f book budget wanted ws out).workspace (f book budget wanted ws out).out

absurd_version {ℓ} : {X : Type ℓ} → ◌≡◌ {A = ℕ} 0 1 → X
absurd_version z = absurd (omega arith)

-- four numbers are those of an accepted call
not_declined : (o : Result Ending Refusal) (y : Tally) (x : Refusal) (e n m u : ℕ) → o ≡ Err x → reply_numbers (record { outcome = o; tally = y }) ≡ four e n m u → ⊥
unfolding reply_numbers
not_declined (Err x') y x e n m u p q = absurd_version (cc)
not_declined (Ok z) y x e n m u p q = absurd_version (cc)

answers_said : (o : Result Ending Refusal) (y : Tally) (e n m u : ℕ) → reply_numbers (record { outcome = o; tally = y }) ≡ four e n m u → (y.answers ≡ n) × (y.units ≡ u)
unfolding reply_numbers
answers_said (Err x) y e n m u q = absurd_version (cc)
answers_said (Ok z) y e n m u q = (cc, cc)

not_zeros : (k : ℕ) → replicate {A = ℕ} (suc k) 7 ≡ replicate {A = ℕ} (length (replicate {A = ℕ} (suc k) 7)) 0 → ⊥
not_zeros k e = let z : ◌≡◌ {A = ℕ} 7 0 = ap (λ (l : List ℕ). get_or l 0 0) e in absurd (omega arith)

-- the version's call of a book, as C1 to C13 are asked
abbrev tried : Version → List (List ℕ) → Called
tried f x = f (book_of x) 1_000_000 64 (replicate 16384 7) (replicate 4096 7)

module _ (f : Version) (h : KeepsContract f) where
  tried_prints : (x : List (List ℕ)) → printed (tried f x) ≡ printed (asked x 64 1_000_000 4096)
  unfolding asked
  tried_prints x = let k = h (book_of x) 1_000_000 64 (replicate 16384 7) (replicate 4096 7) in
      ap printed {x = tried f x} {y = call (book_of x) 1_000_000 64 (replicate 16384 7) (replicate 4096 7)} (λ i. record { reply = k.replied i; workspace = k.words i; out = k.bytes i })

  kept_c2 : Promises (book_of c2) 1_000_000 64 (replicate 16384 7) (replicate 4096 7) (tried f c2).reply (tried f c2).workspace (tried f c2).out
  kept_c2 = promises_kept _ _ _ _ _ _ _ _ (h (book_of c2) 1_000_000 64 (replicate 16384 7) (replicate 4096 7))

  prints_c2 : printed (tried f c2) ≡ four 0 1 0 3 ∷ []
  unfolding reply_to
  prints_c2 = tried_prints c2 ∙ ap (λ (l : List (List (List ℕ))). get_or l 1 []) replied_as_said

  prints_c10 : printed (tried f c10) ≡ four 0 2 2 10 ∷ four 0 2 b 0 ∷ four 1 2 a 0 ∷ []
  unfolding reply_to
  prints_c10 = tried_prints c10 ∙ ap (λ (l : List (List (List ℕ))). get_or l 9 []) replied_as_said

  numbers_c2 : reply_numbers (tried f c2).reply ≡ four 0 1 0 3
  unfolding printed
  numbers_c2 = ap (λ (l : List (List ℕ)). get_or l 0 []) prints_c2

  -- C2 is accepted
  c2_accepted : verdict_numbers (verdict_on (book_of c2) 64 (replicate 16384 7) (replicate 4096 7)) ≡ []
  unfolding verdict_numbers
  c2_accepted = go (verdict_on (book_of c2) 64 (replicate 16384 7) (replicate 4096 7)) refl
    where
      go : (v : Verdict) → verdict_on (book_of c2) 64 (replicate 16384 7) (replicate 4096 7) ≡ v → verdict_numbers (verdict_on (book_of c2) 64 (replicate 16384 7) (replicate 4096 7)) ≡ []
      go (Ok u) e = ap verdict_numbers e
      go (Err x) e = let d = (kept_c2.demand1.leaves (test_number x.test) x.failing (ap verdict_numbers e)).outcome in absurd (not_declined _ _ d.0 _ _ _ _ d.1 numbers_c2)

  -- refuses all
  pub not_refusing_all : ((book : List ℕ) (budget wanted : ℕ) (ws out : List ℕ) → (e : Refusal) × ((f book budget wanted ws out).reply.outcome ≡ Err e)) → ⊥
  not_refusing_all w = let d = w (book_of c2) 1_000_000 64 (replicate 16384 7) (replicate 4096 7) in not_declined _ _ d.0 _ _ _ _ d.1 numbers_c2

  -- always reports no answers
  pub not_always_none : ((book : List ℕ) (budget wanted : ℕ) (ws out : List ℕ) → (f book budget wanted ws out).reply.tally.answers ≡ 0) → ⊥
  not_always_none w = absurd_version (sym (w (book_of c2) 1_000_000 64 (replicate 16384 7) (replicate 4096 7)) ∙ (answers_said _ _ _ _ _ _ numbers_c2).0)

  -- touches nothing
  pub not_touching_nothing : ((book : List ℕ) (budget wanted : ℕ) (ws out : List ℕ) → (f book budget wanted ws out).workspace ≡ ws) → ⊥
  not_touching_nothing w = not_zeros 16383 (sym (w (book_of c2) 1_000_000 64 (replicate 16384 7) (replicate 4096 7)) ∙ (kept_c2.demand2 c2_accepted).words)

  -- the first candidate only: C10's second answer is not given
  pub not_first_only : printed (tried f c10) ≡ four 0 2 2 10 ∷ four 0 2 b 0 ∷ [] → ⊥
  not_first_only e = absurd_version (cc (e, prints_c10))

  -- an invented unit count: C2 has 3 units
  pub not_inventing_units : (tried f c2).reply.tally.units ≢ 3 → ⊥
  not_inventing_units n = n (answers_said _ _ _ _ _ _ numbers_c2).1
