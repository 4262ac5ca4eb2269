-- Any two results that a contract allows agree. The tests and the reads of the book that they make.
use mathlib.Core.Path.{◌≡◌, sym, ◌∙◌}
use Prim.Native.Nat.{ℕ}
use Rattle.book.proofs.Refusal.of.Reads as book-refusal-of-reads
use Rattle.fields.proofs.kind_fits.Reads as fields-kind-fits-reads
use Rattle.fields.proofs.fields_fit.Reads as fields-fields-fit-reads
use Rattle.fields.proofs.zero_from.Reads as fields-zero-from-reads
use Rattle.fields.proofs.term_fits.Reads as fields-term-fits-reads
use Rattle.fields.proofs.link_fits.Reads as fields-link-fits-reads
use Rattle.fields.proofs.and_fits.Reads as fields-and-fits-reads
use Rattle.fields.proofs.suppose_fits.Reads as fields-suppose-fits-reads
use Rattle.fields.proofs.clause_fits.Reads as fields-clause-fits-reads
use Rattle.pointing.proofs.clear.Reads as pointing-clear-reads
use Rattle.pointing.proofs.tree_test.Reads as pointing-tree-test-reads
use Rattle.records.proofs.body.Reads as records-body-reads
use Rattle.records.proofs.read_record.Reads as records-read-record-reads
use Rattle.records.proofs.record_at.Reads as records-record-at-reads
use Rattle.records.proofs.number_at.Reads as records-number-at-reads
use Rattle.records.proofs.field.Reads as records-field-reads
use Rattle.refusals.proofs.tests.Reads as refusals-tests-reads
use Rattle.refusals.proofs.verdict.Reads as refusals-verdict-reads
use Rattle.scope.proofs.scope_test.Reads as scope-scope-test-reads
use Rattle.targets.proofs.targets_fit.Reads as targets-targets-fit-reads
use Rattle.targets.proofs.term_targets.Reads as targets-term-targets-reads
use Rattle.targets.proofs.and_targets.Reads as targets-and-targets-reads
use Rattle.targets.proofs.suppose_targets.Reads as targets-suppose-targets-reads
use Rattle.targets.proofs.clause_targets.Reads as targets-clause-targets-reads

pub book_Refusal_of : (κs : _) (a : _) (r r' : _) (s s' : _) → book-refusal-of-reads.Post κs a r s → book-refusal-of-reads.Post κs a r' s' → r ≡ r'
book_Refusal_of κs a r r' s s' p q = p ∙ sym q

pub fields_kind_fits : (κs : _) (a : _) (r r' : _) (s s' : _) → fields-kind-fits-reads.Post κs a r s → fields-kind-fits-reads.Post κs a r' s' → r ≡ r'
fields_kind_fits κs a r r' s s' p q = p ∙ sym q

pub fields_fields_fit : (κs : _) (a : _) (r r' : _) (s s' : _) → fields-fields-fit-reads.Post κs a r s → fields-fields-fit-reads.Post κs a r' s' → r ≡ r'
fields_fields_fit κs a r r' s s' p q = p ∙ sym q

-- of each number K of a record
pub fields_zero_from : (K : ℕ) (fits : _) (κs : _) (a : _) (r r' : _) (s s' : _) → fields-zero-from-reads.Post K fits κs a r s → fields-zero-from-reads.Post K fits κs a r' s' → r ≡ r'
fields_zero_from K fits κs a r r' s s' p q = p ∙ sym q

pub fields_term_fits : (κs : _) (a : _) (r r' : _) (s s' : _) → fields-term-fits-reads.Post κs a r s → fields-term-fits-reads.Post κs a r' s' → r ≡ r'
fields_term_fits κs a r r' s s' p q = p ∙ sym q

pub fields_link_fits : (κs : _) (a : _) (r r' : _) (s s' : _) → fields-link-fits-reads.Post κs a r s → fields-link-fits-reads.Post κs a r' s' → r ≡ r'
fields_link_fits κs a r r' s s' p q = p ∙ sym q

pub fields_and_fits : (κs : _) (a : _) (r r' : _) (s s' : _) → fields-and-fits-reads.Post κs a r s → fields-and-fits-reads.Post κs a r' s' → r ≡ r'
fields_and_fits κs a r r' s s' p q = p ∙ sym q

pub fields_suppose_fits : (κs : _) (a : _) (r r' : _) (s s' : _) → fields-suppose-fits-reads.Post κs a r s → fields-suppose-fits-reads.Post κs a r' s' → r ≡ r'
fields_suppose_fits κs a r r' s s' p q = p ∙ sym q

pub fields_clause_fits : (κs : _) (a : _) (r r' : _) (s s' : _) → fields-clause-fits-reads.Post κs a r s → fields-clause-fits-reads.Post κs a r' s' → r ≡ r'
fields_clause_fits κs a r r' s s' p q = p ∙ sym q

pub pointing_clear : (κs : _) (a : _) (r r' : _) (s s' : _) → pointing-clear-reads.Post κs a r s → pointing-clear-reads.Post κs a r' s' → s.0.now ≡ s'.0.now
pointing_clear κs a r r' s s' p q = p ∙ sym q

pub pointing_tree_test : (κs : _) (a : _) (r r' : _) (s s' : _) → pointing-tree-test-reads.Post κs a r s → pointing-tree-test-reads.Post κs a r' s' → (r ≡ r') × (s.1.0.now ≡ s'.1.0.now)
pointing_tree_test κs a r r' s s' p q = (p.0 ∙ sym q.0, p.1 ∙ sym q.1)

pub records_read_record : (κs : _) (a : _) (r r' : _) (s s' : _) → records-read-record-reads.Post κs a r s → records-read-record-reads.Post κs a r' s' → r ≡ r'
records_read_record κs a r r' s s' p q = p ∙ sym q

pub records_record_at : (κs : _) (a : _) (r r' : _) (s s' : _) → records-record-at-reads.Post κs a r s → records-record-at-reads.Post κs a r' s' → r ≡ r'
records_record_at κs a r r' s s' p q = p ∙ sym q

pub records_number_at : (κs : _) (a : _) (r r' : _) (s s' : _) → records-number-at-reads.Post κs a r s → records-number-at-reads.Post κs a r' s' → r ≡ r'
records_number_at κs a r r' s s' p q = p ∙ sym q

pub records_field : (κs : _) (a : _) (r r' : _) (s s' : _) → records-field-reads.Post κs a r s → records-field-reads.Post κs a r' s' → r ≡ r'
records_field κs a r r' s s' p q = p ∙ sym q

pub records_body : (κs : _) (a : _) (r r' : _) (s s' : _) → records-body-reads.Post κs a r s → records-body-reads.Post κs a r' s' → r ≡ r'
records_body κs a r r' s s' p q = p ∙ sym q

pub refusals_tests : (κs : _) (a : _) (r r' : _) (s s' : _) → refusals-tests-reads.Post κs a r s → refusals-tests-reads.Post κs a r' s' → (r ≡ r') × (s.1.0.now ≡ s'.1.0.now)
refusals_tests κs a r r' s s' p q = (p.0 ∙ sym q.0, p.1 ∙ sym q.1)

pub refusals_verdict : (κs : _) (a : _) (r r' : _) (s s' : _) → refusals-verdict-reads.Post κs a r s → refusals-verdict-reads.Post κs a r' s' → (r ≡ r') × (s.1.0.now ≡ s'.1.0.now)
refusals_verdict κs a r r' s s' p q = (p.0 ∙ sym q.0, p.1 ∙ sym q.1)

pub scope_scope_test : (κs : _) (a : _) (r r' : _) (s s' : _) → scope-scope-test-reads.Post κs a r s → scope-scope-test-reads.Post κs a r' s' → r ≡ r'
scope_scope_test κs a r r' s s' p q = p ∙ sym q

pub targets_targets_fit : (κs : _) (a : _) (r r' : _) (s s' : _) → targets-targets-fit-reads.Post κs a r s → targets-targets-fit-reads.Post κs a r' s' → r ≡ r'
targets_targets_fit κs a r r' s s' p q = p ∙ sym q

pub targets_term_targets : (κs : _) (a : _) (r r' : _) (s s' : _) → targets-term-targets-reads.Post κs a r s → targets-term-targets-reads.Post κs a r' s' → r ≡ r'
targets_term_targets κs a r r' s s' p q = p ∙ sym q

pub targets_and_targets : (κs : _) (a : _) (r r' : _) (s s' : _) → targets-and-targets-reads.Post κs a r s → targets-and-targets-reads.Post κs a r' s' → r ≡ r'
targets_and_targets κs a r r' s s' p q = p ∙ sym q

pub targets_suppose_targets : (κs : _) (a : _) (r r' : _) (s s' : _) → targets-suppose-targets-reads.Post κs a r s → targets-suppose-targets-reads.Post κs a r' s' → r ≡ r'
targets_suppose_targets κs a r r' s s' p q = p ∙ sym q

pub targets_clause_targets : (κs : _) (a : _) (r r' : _) (s s' : _) → targets-clause-targets-reads.Post κs a r s → targets-clause-targets-reads.Post κs a r' s' → r ≡ r'
targets_clause_targets κs a r r' s s' p q = p ∙ sym q
