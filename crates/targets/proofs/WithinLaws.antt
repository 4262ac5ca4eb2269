-- A record that passed test 4 points at records that are there: as what its kind, or the kind that is read off it, has; and a run, member by member.
use mathlib.Core.Bool.{Bool, true, ◌&&◌}
use mathlib.Core.List.{List}
use mathlib.Core.Path.{◌≡◌, refl, ap, ◌∙◌}
use mathlib.Core.Logic.{◌⊎◌, inl, inr}
use Prim.Native.Nat.{ℕ, zero, suc, ◌+◌, ◌≤◌, ◌<◌}
use native.Mathlib.Numerals.{add-one}
use native.Mathlib.Omega.{arith}
use Rattle.std.specs.Prelude.{Ok}
use denote.Param.Members.{Mut}
use Rattle.std.specs.Fn.{Called}
use Rattle.std.specs.Iterator.{ChecksAll}
use Rattle.std.specs.List.{list_all, range_with_len}
use Rattle.std.specs.declared.ops.Range.{Range}
use Rattle.std.proofs.iter.Yields.{nat_range_steps}
use Rattle.std.proofs.lemmas.Iterator.{YieldsList-from_range}
use Rattle.std.proofs.lemmas.Iterator.Search.{all_from_yields_List}
use Rattle.book.specs.declared.Kind as code
use Rattle.book.specs.declared.Kind.TheVariants.{Term, Atom, And, Or, Suppose, Clause, Question}
use Rattle.book.specs.KindRead.{kind_read}
use Rattle.book.specs.Records.{at, records}
use Rattle.book.specs.Kinds.{term_kind, and_kind, suppose_kind, clause_kind, question_kind, kind_of}
use Rattle.book.specs.Fields.{fields_fit_as, fields_fit}
use Rattle.book.specs.Targets.{each_of}
use Rattle.records.proofs.BelowLaws.{term_below, and_below, suppose_below, question_below, clause_below}
use Rattle.targets.specs.Within.{Readable, Within}

module _ (book : List ℕ) (i : ℕ) (r : List ℕ) (h : Readable book i) where
  there : {p : ℕ} → p < i → p < records book
  there l = let f = h.few in omega arith

  run : {e : ℕ} → e ≤ i → Readable book e
  run l = let f = h.few in record { few = omega arith; targets = λ k p. h.targets k (omega arith) }

  pub term_within : fields_fit_as term_kind i r ≡ true → Readable book (at r 3 + at r 2)
  term_within e = run (term_below i r e)

  pub and_within : fields_fit_as and_kind i r ≡ true → (at r 1 < records book) × (at r 2 < records book)
  and_within e = let x = and_below i r e in (there x.0, there x.1)

  pub suppose_within : fields_fit_as suppose_kind i r ≡ true → Readable book (at r 1 + at r 2) × (at r 3 < records book)
  suppose_within e = let x = suppose_below i r e in (run x.0, there x.1)

  pub question_within : fields_fit_as question_kind i r ≡ true → Readable book (at r 1 + at r 2) × (at r 3 < records book)
  question_within e = let x = question_below i r e in (run x.0, there x.1)

  pub clause_within : fields_fit_as clause_kind i r ≡ true
      → Readable book (at r 2 + at r 3) × (at r 4 < records book) × (at r 5 ≡ 1 → at r 6 < records book)
  clause_within e = let x = clause_below i r e in (run x.0, there x.1, λ g. there (x.2 g))

module _ (book r : List ℕ) (k : code.Kind) (e : kind_read (Ok k) ≡ kind_of (at r 0)) (w : Within book r) where
  fits_read : fields_fit_as (kind_read (Ok k)) w.0 r ≡ true
  unfolding fields_fit
  fits_read = rw e w.2

  pub term_there : (k ≡ Term) ⊎ (k ≡ Atom) → Readable book (at r 3 + at r 2)
  unfolding fields_fit_as
  term_there (inl q) = term_within book w.0 r w.1 (rw q at fits_read)
  term_there (inr q) = term_within book w.0 r w.1 (rw q at fits_read)

  pub and_there : (k ≡ And) ⊎ (k ≡ Or) → (at r 1 < records book) × (at r 2 < records book)
  unfolding fields_fit_as
  and_there (inl q) = and_within book w.0 r w.1 (rw q at fits_read)
  and_there (inr q) = and_within book w.0 r w.1 (rw q at fits_read)

  pub suppose_there : (k ≡ Suppose) ⊎ (k ≡ Question) → Readable book (at r 1 + at r 2) × (at r 3 < records book)
  suppose_there (inl q) = suppose_within book w.0 r w.1 (rw q at fits_read)
  suppose_there (inr q) = question_within book w.0 r w.1 (rw q at fits_read)

  pub clause_there : k ≡ Clause → Readable book (at r 2 + at r 3) × (at r 4 < records book) × (at r 5 ≡ 1 → at r 6 < records book)
  clause_there q = clause_within book w.0 r w.1 (rw q at fits_read)

each_all : (ok : ℕ → Bool) (first n : ℕ) → list_all ok (range_with_len first n) ≡ each_of ok first n
unfolding each_of
each_all ok first zero = refl
each_all ok first (suc n) = ap (λ b. ok first && b) (rw (add-one first) (each_all ok (suc first) n))

-- what `all` answers over a run
pub all_of_run : {F : Type 0} {g : Mut F (ℕ × Unit {0}) Bool} {f : F} {s u : Range ℕ} {r : Bool} (ok : ℕ → Bool) (first n : ℕ)
    → s ≡ record { start = first; end = first + n } → ChecksAll nat_range_steps g s f r u
    → ((x : ℕ) (b : Bool) (q : F) → Called g f (x, tt) b q → (q ≡ f) × (b ≡ ok x)) → r ≡ each_of ok first n
all_of_run ok first n e ran by = all_from_yields_List ok _ _ _ ran (YieldsList-from_range first (first + n) n e (omega arith)) by ∙ each_all ok first n
