use Rattle.std.proofs.Common.{◌≡◌, ℕ, ◌≤◌, Bool, true, false, eqb, refl, arith, Ok}
use Rattle.std.proofs.lemmas.Bool.Decides.{nat_tests}
use denote.Enum.Bare.{sameb}
use Rattle.book.specs.declared.Kind as code
use Rattle.book.specs.declared.Kind.TheVariants.{Variable, Term, Link, Atom, And, Or, Suppose, Clause, Tie, Question}
use Rattle.book.specs.contracts.Kind.{the_type}
use Rattle.book.specs.KindRead.{kind_read}
use Rattle.book.specs.Kinds.{Kind, no_kind, kind_of}
use Rattle.book.specs.Fields.{kind_fits}
use Rattle.book.proofs.KindLaws.{NoneOfTen, KindSays, kind_says}
use Rattle.fields.proofs.kind_fits.Goals as goal

says : (k : ℕ) (x : Kind) → x ≡ kind_of k → KindSays k x
says k x e = rw e (kind_says k)

none : (k : ℕ) → NoneOfTen k → (last : Bool) → false ≡ kind_fits k last
unfolding kind_fits
none k n true = grind (arith, nat_tests, n.9)
none k n false = grind (arith, nat_tests, n.0, n.1, n.2, n.3, n.4, n.5, n.6, n.7, n.8)

-- the kind that was read is a question where the number is 10, and the number is one of the ten
read_says : (x : code.Kind) (k : ℕ) → kind_read (Ok x) ≡ kind_of k → (sameb the_type x Question ≡ eqb k 10) × (1 ≤ k) × (k ≤ 10)
read_says Variable k e = rw (says k _ e) (refl, omega arith, omega arith)
read_says Term k e = rw (says k _ e) (refl, omega arith, omega arith)
read_says Link k e = rw (says k _ e) (refl, omega arith, omega arith)
read_says Atom k e = rw (says k _ e) (refl, omega arith, omega arith)
read_says And k e = rw (says k _ e) (refl, omega arith, omega arith)
read_says Or k e = rw (says k _ e) (refl, omega arith, omega arith)
read_says Suppose k e = rw (says k _ e) (refl, omega arith, omega arith)
read_says Clause k e = rw (says k _ e) (refl, omega arith, omega arith)
read_says Tie k e = rw (says k _ e) (refl, omega arith, omega arith)
read_says Question k e = rw (says k _ e) (refl, omega arith, omega arith)

pub returns-in-Ok : goal.returns-in-Ok
unfolding kind_fits
returns-in-Ok c =
    let a = read_says _ c.args.k c.in-Ok.ensures.0 in
    rw (c.eq.ensures, a.0) (grind (arith, nat_tests))

pub returns-in-Err : goal.returns-in-Err
returns-in-Err c = none c.args.k (says c.args.k no_kind c.in-Err.ensures.0) c.args.last
