-- The kind that the code reads off a number, beside the kind of that number in Kinds, which has a word for a number that no kind has; and the number of each kind.
use Rattle.std.specs.Prelude.{◌≡◌, ℕ, Result, Ok, Err, IfErr}
use Rattle.book.specs.declared.Kind as code
use Rattle.book.specs.declared.Kind.TheVariants.{Variable, Term, Link, Atom, And, Or, Suppose, Clause, Tie, Question}
use Rattle.book.specs.declared.UnknownKind.{UnknownKind}
use Rattle.book.specs.Kinds.{Kind, variable_kind, term_kind, link_kind, atom_kind, and_kind, or_kind, suppose_kind, clause_kind, tie_kind, question_kind, no_kind, kind_of}

abbrev pub kind_read : Result code.Kind UnknownKind → Kind
kind_read (Ok Variable) = variable_kind
kind_read (Ok Term) = term_kind
kind_read (Ok Link) = link_kind
kind_read (Ok Atom) = atom_kind
kind_read (Ok And) = and_kind
kind_read (Ok Or) = or_kind
kind_read (Ok Suppose) = suppose_kind
kind_read (Ok Clause) = clause_kind
kind_read (Ok Tie) = tie_kind
kind_read (Ok Question) = question_kind
kind_read (Err e) = no_kind

-- n is read as the kind whose number it is; an error holds the number
abbrev pub KindRead : ℕ → Result code.Kind UnknownKind → Type 0
KindRead n r = (kind_read r ≡ kind_of n) × IfErr r (λ e. e.0 ≡ n)

-- the number of each kind of record, in the first column of document 01's table
abbrev pub kind_number : code.Kind → ℕ
kind_number Variable = 1
kind_number Term = 2
kind_number Link = 3
kind_number Atom = 4
kind_number And = 5
kind_number Or = 6
kind_number Suppose = 7
kind_number Clause = 8
kind_number Tie = 9
kind_number Question = 10
