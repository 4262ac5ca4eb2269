use borrow.Author.Tests.{eqb-true, eqb-false}
use mathlib.Core.Path.{refl, sym, ◌∙◌}
use Rattle.words.proofs.StackLaws.{keeps_refl}
use Rattle.looks.proofs.RunLaws.{run_here}
use Rattle.looks.proofs.ValueLaws.{known_open, known_term, reads_same, text_here, value_term, var_below, value_open, value_word}
use Rattle.looks.proofs.LookLaws.{step_into, step_found, step_other}
use Rattle.looks.proofs.look_step.Goals as goal

pub is-requires : goal.is-requires
is-requires c = let p = c.requires in (text_here _ c.args.book.now.readable _ _ p.slots _ _ (run_here _ _ p.slots.room _ _ _ p.listed.some p.listed.hand) _ c.field-t.ensures.0).0.0

pub look_into-requires : goal.look_into-requires
look_into-requires c = let p = c.requires in record { slots = p.slots; listed = p.listed; term_at = (known_term (value_term _ c.args.book.now.readable _ _ p.slots _ _ (run_here _ _ p.slots.room _ _ _ p.listed.some p.listed.hand) _ c.field-t.ensures.0 (eqb-false _ _ (sym c.is.ensures ∙ c.if-not-is.true))) _ _ refl).term }

pub returns-then-not-is : goal.returns-then-not-is
returns-then-not-is c = let p = c.requires in record { keeps = c.look_into.ensures.keeps; look_stepped = step_into _ c.args.book.now.readable _ _ _ _ p.listed.some p.v_nonzero.0 _ _ (known_term (value_term _ c.args.book.now.readable _ _ p.slots _ _ (run_here _ _ p.slots.room _ _ _ p.listed.some p.listed.hand) _ c.field-t.ensures.0 (eqb-false _ _ (sym c.is.ensures ∙ c.if-not-is.true))) _ _ refl) _ _ c.look_into.ensures.looked_into }

pub read_variable-w-requires : goal.read_variable-w-requires
read_variable-w-requires c = let p = c.requires in record { slots = p.slots; v_lt_made = var_below _ c.args.book.now.readable _ _ p.slots _ _ (run_here _ _ p.slots.room _ _ _ p.listed.some p.listed.hand) _ c.field-t.ensures.0 (eqb-true _ _ (sym c.is.ensures ∙ c.if-not-is.false)) _ c.field-o.ensures.0 }

pub look_last-requires : goal.look_last-requires
look_last-requires c = let p = c.requires in record { slots = p.slots; listed = (p.listed, c.if-s-eq1.true); term_at = ((reads_same c.if-r-k.true (known_term (value_word _ c.args.book.now.readable _ _ p.slots _ _ (run_here _ _ p.slots.room _ _ _ p.listed.some p.listed.hand) _ c.field-t.ensures.0 (eqb-true _ _ (sym c.is.ensures ∙ c.if-not-is.false)) _ c.field-o.ensures.0 _ c.read_variable-w.ensures c.if-w-ge4096.true) _ _ refl)).term, p.v_nonzero.1) }

pub returns-then-r-k : goal.returns-then-r-k
returns-then-r-k c = let p = c.requires in record { keeps = keeps_refl _ _ _; look_stepped = step_into _ c.args.book.now.readable _ _ _ _ p.listed.some p.v_nonzero.0 _ _ (reads_same c.if-r-k.true (known_term (value_word _ c.args.book.now.readable _ _ p.slots _ _ (run_here _ _ p.slots.room _ _ _ p.listed.some p.listed.hand) _ c.field-t.ensures.0 (eqb-true _ _ (sym c.is.ensures ∙ c.if-not-is.false)) _ c.field-o.ensures.0 _ c.read_variable-w.ensures c.if-w-ge4096.true) _ _ refl)) _ _ c.look_last.ensures }

pub look_into-requires-then-w-ge4096 : goal.look_into-requires-then-w-ge4096
look_into-requires-then-w-ge4096 c = let p = c.requires in record { slots = p.slots; listed = p.listed; term_at = (known_term (value_word _ c.args.book.now.readable _ _ p.slots _ _ (run_here _ _ p.slots.room _ _ _ p.listed.some p.listed.hand) _ c.field-t.ensures.0 (eqb-true _ _ (sym c.is.ensures ∙ c.if-not-is.false)) _ c.field-o.ensures.0 _ c.read_variable-w.ensures c.if-w-ge4096.true) _ _ refl).term }

pub returns-then-w-ge4096 : goal.returns-then-w-ge4096
returns-then-w-ge4096 c = let p = c.requires in record { keeps = c.look_into-then-w-ge4096.ensures.keeps; look_stepped = step_into _ c.args.book.now.readable _ _ _ _ p.listed.some p.v_nonzero.0 _ _ (known_term (value_word _ c.args.book.now.readable _ _ p.slots _ _ (run_here _ _ p.slots.room _ _ _ p.listed.some p.listed.hand) _ c.field-t.ensures.0 (eqb-true _ _ (sym c.is.ensures ∙ c.if-not-is.false)) _ c.field-o.ensures.0 _ c.read_variable-w.ensures c.if-w-ge4096.true) _ _ refl) _ _ c.look_into-then-w-ge4096.ensures.looked_into }

pub returns-then-w-v : goal.returns-then-w-v
returns-then-w-v c = let p = c.requires in record { keeps = keeps_refl _ _ _; look_stepped = step_found _ c.args.book.now.readable _ _ _ _ p.listed.some p.v_nonzero.0 _ (known_open (value_open _ c.args.book.now.readable _ _ p.slots _ _ (run_here _ _ p.slots.room _ _ _ p.listed.some p.listed.hand) _ c.field-t.ensures.0 (eqb-true _ _ (sym c.is.ensures ∙ c.if-not-is.false)) _ c.field-o.ensures.0 _ c.read_variable-w.ensures c.if-w-ge4096.false) _ refl) c.if-w-v.true }

pub returns : goal.returns
returns c = let p = c.requires in record { keeps = keeps_refl _ _ _; look_stepped = step_other _ c.args.book.now.readable _ _ _ _ p.listed.some p.v_nonzero.0 _ (known_open (value_open _ c.args.book.now.readable _ _ p.slots _ _ (run_here _ _ p.slots.room _ _ _ p.listed.some p.listed.hand) _ c.field-t.ensures.0 (eqb-true _ _ (sym c.is.ensures ∙ c.if-not-is.false)) _ c.field-o.ensures.0 _ c.read_variable-w.ensures c.if-w-ge4096.false) _ refl) c.if-w-v.false _ c.look_past.ensures }
