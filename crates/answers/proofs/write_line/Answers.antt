use native.Mathlib.Omega.{arith}
use mathlib.Core.Path.{refl}
use mathlib.Core.Logic.{inl}
use mathlib.Core.List.{[]}
use Rattle.words.specs.Words.{rec_of, base_of}
use Rattle.answers.proofs.LineLaws.{number_small, line_var, term_good, line_full, line_app}
use Rattle.answers.proofs.write_line.Goals as goal

pub overflow_cast-k : goal.overflow_cast-k
overflow_cast-k c = let p = c.requires in let t = p.n_nonzero in
    let s = number_small _ c.args.book.now.readable _ _ p.slots 0 _ _ _ _ t.0 t.1 refl c.read_through-w.ensures p.good_words [] c.if-w-lt4096.true p.by_index in omega (arith, c.number-k.ensures.0, t.2)

pub returns-then-w-lt4096 : goal.returns-then-w-lt4096
returns-then-w-lt4096 c = λ seen N. let p = c.requires in let t = p.n_nonzero in
    line_var _ c.args.book.now.readable _ _ p.slots _ _ _ _ _ t.0 t.1 refl c.read_through-w.ensures p.good_words _ c.if-w-lt4096.true seen N _ _ _ _ c.number-k.ensures.0 c.number-k.ensures.1 c.put_record.ensures c.count_after.ensures

pub field-m-requires-clause-r_bound : goal.field-m-requires-clause-r_bound
unfolding rec_of
field-m-requires-clause-r_bound c = let p = c.requires in let t = p.n_nonzero in (term_good _ c.args.book.now.readable _ _ p.slots 0 _ 0 _ _ t.0 t.1 refl c.read_through-w.ensures p.good_words [] c.if-w-lt4096.false).term.0

pub returns-then-n-m-gt256 : goal.returns-then-n-m-gt256
unfolding rec_of
returns-then-n-m-gt256 c = λ seen N. let p = c.requires in let t = p.n_nonzero in line_full _ c.args.book.now.readable _ _ p.slots _ _ _ _ _ t.0 t.1 refl c.read_through-w.ensures p.good_words _ c.if-w-lt4096.false seen _ c.field-m.ensures.0 c.if-n-m-gt256.true

pub field-f-requires-clause-r_bound : goal.field-f-requires-clause-r_bound
unfolding rec_of
field-f-requires-clause-r_bound c = let p = c.requires in let t = p.n_nonzero in (term_good _ c.args.book.now.readable _ _ p.slots 0 _ 0 _ _ t.0 t.1 refl c.read_through-w.ensures p.good_words [] c.if-w-lt4096.false).term.0

pub push_terms-requires-clause-has_arguments : goal.push_terms-requires-clause-has_arguments
unfolding rec_of
push_terms-requires-clause-has_arguments c = let p = c.requires in let t = p.n_nonzero in
    let g = (term_good _ c.args.book.now.readable _ _ p.slots 0 _ 0 _ _ t.0 t.1 refl c.read_through-w.ensures p.good_words [] c.if-w-lt4096.false).term in (g.0, inl g.1)

pub returns : goal.returns
unfolding rec_of base_of
returns c = λ seen N. let p = c.requires in let t = p.n_nonzero in
    line_app _ c.args.book.now.readable _ _ p.slots _ _ _ _ _ t.0 t.1 refl c.read_through-w.ensures p.good_words _ c.if-w-lt4096.false seen N _ _ _ _ c.field-f.ensures.0 c.field-m.ensures.0 c.if-n-m-gt256.false c.put_record-2.ensures c.push_terms.ensures
