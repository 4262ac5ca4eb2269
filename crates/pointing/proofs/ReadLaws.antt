-- A record of the kind that the code reads off it: what it points at, and that test 4 has found that below it.
use mathlib.Core.Bool.{true}
use mathlib.Core.List.{List, []}
use mathlib.Core.Logic.{◌⊎◌, inl, inr}
use mathlib.Core.Path.{◌≡◌}
use Prim.Native.Nat.{ℕ, ◌+◌, ◌≤◌, ◌<◌}
use Rattle.std.specs.Prelude.{Ok}
use Rattle.book.specs.declared.Kind as code
use Rattle.book.specs.declared.Kind.TheVariants.{Variable, Term, Link, Atom, And, Or, Suppose, Clause, Tie, Question}
use Rattle.book.specs.KindRead.{kind_read}
use Rattle.book.specs.Records.{at}
use Rattle.book.specs.Kinds.{term_kind, link_kind, and_kind, suppose_kind, clause_kind, no_kind, kind_of}
use Rattle.book.specs.Fields.{fields_fit_as, fields_fit}
use Rattle.book.specs.Pointing.{pointers_as, pointers}
use Rattle.records.proofs.BelowLaws.{term_below, link_below, and_below, suppose_below, question_below, clause_below}

module _ (r : List ℕ) (k : code.Kind) (e : kind_read (Ok k) ≡ kind_of (at r 0)) where
  fits_read : (i : ℕ) → fields_fit i r ≡ true → fields_fit_as (kind_read (Ok k)) i r ≡ true
  unfolding fields_fit
  fits_read i f = rw e f

  pub term_held : (i : ℕ) → fields_fit i r ≡ true → (k ≡ Term) ⊎ (k ≡ Atom) → at r 3 + at r 2 ≤ i
  unfolding fields_fit_as
  term_held i f (inl q) = term_below i r (rw q at fits_read i f)
  term_held i f (inr q) = term_below i r (rw q at fits_read i f)

  pub link_held : (i : ℕ) → fields_fit i r ≡ true → k ≡ Link → at r 1 < i
  unfolding fields_fit_as
  link_held i f q = link_below i r (rw q at fits_read i f)

  pub and_held : (i : ℕ) → fields_fit i r ≡ true → (k ≡ And) ⊎ (k ≡ Or) → (at r 1 < i) × (at r 2 < i)
  unfolding fields_fit_as
  and_held i f (inl q) = and_below i r (rw q at fits_read i f)
  and_held i f (inr q) = and_below i r (rw q at fits_read i f)

  pub suppose_held : (i : ℕ) → fields_fit i r ≡ true → (k ≡ Suppose) ⊎ (k ≡ Question) → (at r 1 + at r 2 ≤ i) × (at r 3 < i)
  unfolding fields_fit_as
  suppose_held i f (inl q) = suppose_below i r (rw q at fits_read i f)
  suppose_held i f (inr q) = question_below i r (rw q at fits_read i f)

  pub clause_held : (i : ℕ) → fields_fit i r ≡ true → k ≡ Clause → (at r 2 + at r 3 ≤ i) × (at r 4 < i) × (at r 5 ≡ 1 → at r 6 < i)
  unfolding fields_fit_as
  clause_held i f q = clause_below i r (rw q at fits_read i f)

  pointers_read : pointers r ≡ pointers_as (kind_read (Ok k)) r
  unfolding pointers
  pointers_read = rw e

  pub term_points : (k ≡ Term) ⊎ (k ≡ Atom) → pointers r ≡ pointers_as term_kind r
  unfolding pointers_as
  term_points (inl q) = rw (pointers_read, q)
  term_points (inr q) = rw (pointers_read, q)

  pub link_points : k ≡ Link → pointers r ≡ pointers_as link_kind r
  link_points q = rw (pointers_read, q)

  pub and_points : (k ≡ And) ⊎ (k ≡ Or) → pointers r ≡ pointers_as and_kind r
  unfolding pointers_as
  and_points (inl q) = rw (pointers_read, q)
  and_points (inr q) = rw (pointers_read, q)

  pub suppose_points : (k ≡ Suppose) ⊎ (k ≡ Question) → pointers r ≡ pointers_as suppose_kind r
  unfolding pointers_as
  suppose_points (inl q) = rw (pointers_read, q)
  suppose_points (inr q) = rw (pointers_read, q)

  pub clause_points : k ≡ Clause → pointers r ≡ pointers_as clause_kind r
  clause_points q = rw (pointers_read, q)

  pub variable_points : (k ≡ Variable) ⊎ (k ≡ Tie) → pointers r ≡ []
  unfolding pointers_as
  variable_points (inl q) = rw (pointers_read, q)
  variable_points (inr q) = rw (pointers_read, q)

pub none_points : (r : List ℕ) → no_kind ≡ kind_of (at r 0) → pointers r ≡ []
unfolding pointers pointers_as
none_points r e = rw (← e)
