-- Any two results that a contract allows agree. The reads, the stacks and the bindings of a branch: every word of the workspace.
use mathlib.Core.Path.{◌≡◌, sym, ◌∙◌, subst}
use mathlib.Core.List.{List}
use Prim.Native.Nat.{ℕ, ◌+◌, ◌-◌, ◌<◌}
use native.Mathlib.Omega.{arith}
use native.Mathlib.Decide.{dec_lt}
use lib.Seq.{ext_get_or}
use lib.ListN.{length, get_or}
use Rattle.words.specs.Words.{term_w}
use Rattle.index.specs.Index.{IndexedFrom}
use Rattle.branch.proofs.open_again.Reads as branch-open-again-reads
use Rattle.seeking.proofs.forget.Reads as seeking-forget-reads
use Rattle.branch.proofs.put_ties.Reads as branch-put-ties-reads
use Rattle.branch.proofs.kept.Reads as branch-kept-reads
use Rattle.branch.proofs.go_back.Reads as branch-go-back-reads
use Rattle.branch.proofs.keep.Reads as branch-keep-reads
use Rattle.branch.proofs.put_cell.Reads as branch-put-cell-reads
use Rattle.supposed.proofs.index_supposed.Reads as supposed-index-supposed-reads
use Rattle.supposed.proofs.first_of.Reads as supposed-first-of-reads
use Rattle.supposed.proofs.next_of.Reads as supposed-next-of-reads
use Rattle.supposed.proofs.is_supposed.Reads as supposed-is-supposed-reads
use Rattle.steps.proofs.to_back.Reads as steps-to-back-reads
use Rattle.following.proofs.follow.Reads as following-follow-reads
use Rattle.index.proofs.Head.read.Reads as index-head-read-reads
use Rattle.index.proofs.Head.of_clause.Reads as index-head-of-clause-reads
use Rattle.index.proofs.Run.read.Reads as index-run-read-reads
use Rattle.index.proofs.head_matches.Reads as index-head-matches-reads
use Rattle.index.proofs.head_bucket.Reads as index-head-bucket-reads
use Rattle.index.proofs.clause_at.Reads as index-clause-at-reads
use Rattle.index.proofs.first_match.Reads as index-first-match-reads
use Rattle.index.proofs.match_after.Reads as index-match-after-reads
use Rattle.words.proofs.clear_words.Reads as words-clear-words-reads
use Rattle.words.proofs.index.Reads as words-index-reads
use Rattle.words.proofs.Book.records.Reads as words-records-reads
use Rattle.words.proofs.Book.last.Reads as words-last-reads
use Rattle.words.proofs.Book.field.Reads as words-field-reads
use Rattle.words.proofs.Book.body.Reads as words-body-reads
use Rattle.words.proofs.Book.is.Reads as words-is-reads
use Rattle.words.proofs.Book.word_for.Reads as words-word-for-reads
use Rattle.words.proofs.push_terms.Reads as words-push-terms-reads
use Rattle.words.proofs.bind.Reads as words-bind-reads
use Rattle.words.proofs.Book.symbol_and_count.Reads as words-symbol-and-count-reads
use Rattle.words.proofs.read_variable.Reads as words-read-variable-reads
use Rattle.words.proofs.read_through.Reads as words-read-through-reads
use Rattle.index.proofs.make_index.Reads as index-make-index-reads

pub branch_open_again : (κs : _) (a : _) (r r' : _) (s s' : _) → branch-open-again-reads.Post κs a r s → branch-open-again-reads.Post κs a r' s' → s.0.now ≡ s'.0.now
branch_open_again κs a r r' s s' p q = p ∙ sym q

pub seeking_forget : (κs : _) (a : _) (r r' : _) (s s' : _) → seeking-forget-reads.Post κs a r s → seeking-forget-reads.Post κs a r' s' → s.0.now ≡ s'.0.now
seeking_forget κs a r r' s s' p q = p ∙ sym q

pub words_clear_words : (κs : _) (a : _) (r r' : _) (s s' : _) → words-clear-words-reads.Post κs a r s → words-clear-words-reads.Post κs a r' s' → s.0.now ≡ s'.0.now
words_clear_words κs a r r' s s' p q = p ∙ sym q

pub branch_put_ties : (κs : _) (a : _) (r r' : _) (s s' : _) → branch-put-ties-reads.Post κs a r s → branch-put-ties-reads.Post κs a r' s' → s.1.0.now ≡ s'.1.0.now
branch_put_ties κs a r r' s s' p q = p ∙ sym q

pub branch_kept : (κs : _) (a : _) (r r' : _) (s s' : _) → branch-kept-reads.Post κs a r s → branch-kept-reads.Post κs a r' s' → r ≡ r'
branch_kept κs a r r' s s' p q = p ∙ sym q

pub branch_go_back : (κs : _) (a : _) (r r' : _) (s s' : _) → branch-go-back-reads.Post κs a r s → branch-go-back-reads.Post κs a r' s' → (r ≡ r') × (s.0.now ≡ s'.0.now)
branch_go_back κs a r r' s s' p q = (p.0 ∙ sym q.0, p.1 ∙ sym q.1)

pub branch_keep : (κs : _) (a : _) (r r' : _) (s s' : _) → branch-keep-reads.Post κs a r s → branch-keep-reads.Post κs a r' s' → s.0.now ≡ s'.0.now
branch_keep κs a r r' s s' p q = p ∙ sym q

pub branch_put_cell : (κs : _) (a : _) (r r' : _) (s s' : _) → branch-put-cell-reads.Post κs a r s → branch-put-cell-reads.Post κs a r' s' → s.0.now ≡ s'.0.now
branch_put_cell κs a r r' s s' p q = p ∙ sym q

pub steps_to_back : (κs : _) (a : _) (r r' : _) (s s' : _) → steps-to-back-reads.Post κs a r s → steps-to-back-reads.Post κs a r' s' → r ≡ r'
steps_to_back κs a r r' s s' p q = p ∙ sym q

pub supposed_index_supposed : (κs : _) (a : _) (r r' : _) (s s' : _) → supposed-index-supposed-reads.Post κs a r s → supposed-index-supposed-reads.Post κs a r' s' → s.1.0.now ≡ s'.1.0.now
supposed_index_supposed κs a r r' s s' p q = p ∙ sym q

pub supposed_first_of : (κs : _) (a : _) (r r' : _) (s s' : _) → supposed-first-of-reads.Post κs a r s → supposed-first-of-reads.Post κs a r' s' → r ≡ r'
supposed_first_of κs a r r' s s' p q = p.0 ∙ sym q.0

pub supposed_next_of : (κs : _) (a : _) (r r' : _) (s s' : _) → supposed-next-of-reads.Post κs a r s → supposed-next-of-reads.Post κs a r' s' → r ≡ r'
supposed_next_of κs a r r' s s' p q = p.0 ∙ sym q.0

pub supposed_is_supposed : (κs : _) (a : _) (r r' : _) (s s' : _) → supposed-is-supposed-reads.Post κs a r s → supposed-is-supposed-reads.Post κs a r' s' → r ≡ r'
supposed_is_supposed κs a r r' s s' p q = p ∙ sym q

pub index_Head_read : (κs : _) (a : _) (r r' : _) (s s' : _) → index-head-read-reads.Post κs a r s → index-head-read-reads.Post κs a r' s' → r ≡ r'
index_Head_read κs a r r' s s' p q = λ i. record { symbol = (p.0 ∙ sym q.0) i; count = (p.1 ∙ sym q.1) i }

pub index_of_clause : (κs : _) (a : _) (r r' : _) (s s' : _) → index-head-of-clause-reads.Post κs a r s → index-head-of-clause-reads.Post κs a r' s' → r ≡ r'
index_of_clause κs a r r' s s' p q = λ i. record { symbol = (p.0 ∙ sym q.0) i; count = (p.1 ∙ sym q.1) i }

pub index_Run_read : (κs : _) (a : _) (r r' : _) (s s' : _) → index-run-read-reads.Post κs a r s → index-run-read-reads.Post κs a r' s' → r ≡ r'
index_Run_read κs a r r' s s' p q = λ i. record { first = (p.0 ∙ sym q.0) i; count = (p.1 ∙ sym q.1) i }

pub index_head_matches : (κs : _) (a : _) (r r' : _) (s s' : _) → index-head-matches-reads.Post κs a r s → index-head-matches-reads.Post κs a r' s' → r ≡ r'
index_head_matches κs a r r' s s' p q = p ∙ sym q

pub index_head_bucket : (κs : _) (a : _) (r r' : _) (s s' : _) → index-head-bucket-reads.Post κs a r s → index-head-bucket-reads.Post κs a r' s' → r ≡ r'
index_head_bucket κs a r r' s s' p q = p.0 ∙ sym q.0

pub index_first_match : (κs : _) (a : _) (r r' : _) (s s' : _) → index-first-match-reads.Post κs a r s → index-first-match-reads.Post κs a r' s' → r ≡ r'
index_first_match κs a r r' s s' p q = p ∙ sym q

pub index_match_after : (κs : _) (a : _) (r r' : _) (s s' : _) → index-match-after-reads.Post κs a r s → index-match-after-reads.Post κs a r' s' → r ≡ r'
index_match_after κs a r r' s s' p q = p ∙ sym q

pub following_follow : (κs : _) (a : _) (r r' : _) (s s' : _) → following-follow-reads.Post κs a r s → following-follow-reads.Post κs a r' s' → r ≡ r'
following_follow κs a r r' s s' p q = p ∙ sym q

pub index_clause_at : (κs : _) (a : _) (r r' : _) (s s' : _) → index-clause-at-reads.Post κs a r s → index-clause-at-reads.Post κs a r' s' → r ≡ r'
index_clause_at κs a r r' s s' p q = p ∙ sym q

pub words_index : (κs : _) (a : _) (r r' : _) (s s' : _) → words-index-reads.Post κs a r s → words-index-reads.Post κs a r' s' → r ≡ r'
words_index κs a r r' s s' p q = p ∙ sym q

pub words_records : (κs : _) (a : _) (r r' : _) (s s' : _) → words-records-reads.Post κs a r s → words-records-reads.Post κs a r' s' → r ≡ r'
words_records κs a r r' s s' p q = p ∙ sym q

pub words_last : (κs : _) (a : _) (r r' : _) (s s' : _) → words-last-reads.Post κs a r s → words-last-reads.Post κs a r' s' → r ≡ r'
words_last κs a r r' s s' p q = p ∙ sym q

pub words_field : (κs : _) (a : _) (r r' : _) (s s' : _) → words-field-reads.Post κs a r s → words-field-reads.Post κs a r' s' → r ≡ r'
words_field κs a r r' s s' p q = p.0 ∙ sym q.0

pub words_body : (κs : _) (a : _) (r r' : _) (s s' : _) → words-body-reads.Post κs a r s → words-body-reads.Post κs a r' s' → r ≡ r'
words_body κs a r r' s s' p q = p.0 ∙ sym q.0

pub words_is : (κs : _) (a : _) (r r' : _) (s s' : _) → words-is-reads.Post κs a r s → words-is-reads.Post κs a r' s' → r ≡ r'
words_is κs a r r' s s' p q = p ∙ sym q

pub words_symbol_and_count : (κs : _) (a : _) (r r' : _) (s s' : _) → words-symbol-and-count-reads.Post κs a r s → words-symbol-and-count-reads.Post κs a r' s' → r ≡ r'
words_symbol_and_count κs a r r' s s' p q = p.0 ∙ sym q.0

pub words_word_for : (κs : _) (a : _) (r r' : _) (s s' : _) → words-word-for-reads.Post κs a r s → words-word-for-reads.Post κs a r' s' → r ≡ r'
words_word_for κs a r r' s s' p q = p ∙ sym q

pub words_push_terms : (κs : _) (a : _) (r r' : _) (s s' : _) → words-push-terms-reads.Post κs a r s → words-push-terms-reads.Post κs a r' s' → s.1.1.1.1.1.0.now ≡ s'.1.1.1.1.1.0.now
words_push_terms κs a r r' s s' p q = p ∙ sym q

pub words_bind : (κs : _) (a : _) (r r' : _) (s s' : _) → words-bind-reads.Post κs a r s → words-bind-reads.Post κs a r' s' → s.1.1.1.0.now ≡ s'.1.1.1.0.now
words_bind κs a r r' s s' p q = p ∙ sym q

-- words::read_variable, words::read_through: the same term. Two words can stand for one term, where the book says it twice; which of them is given is the exception.
pub words_read_variable : (κs : _) (a : _) (r r' : _) (s s' : _) → words-read-variable-reads.Post κs a r s → words-read-variable-reads.Post κs a r' s'
    → term_w a.0.now.bytes.now r ≡ term_w a.0.now.bytes.now r'
words_read_variable κs a r r' s s' p q = sym p.walked ∙ q.walked

pub words_read_through : (κs : _) (a : _) (r r' : _) (s s' : _) → words-read-through-reads.Post κs a r s → words-read-through-reads.Post κs a r' s'
    → term_w a.0.now.bytes.now r ≡ term_w a.0.now.bytes.now r'
words_read_through κs a r r' s s' p q = sym p.walked ∙ q.walked

-- index::make_index: every word is the index's or as it was. There are 16,384, the length of the array type.
index_word : (book : List ℕ) (first n : ℕ) (ws v w : List ℕ) → IndexedFrom book first n 0 ws v → IndexedFrom book first n 0 ws w → (k : ℕ) → k < 16384 → get_or v k 0 ≡ get_or w k 0
index_word book first n ws v w p q k h = go (dec_lt k 4096) (dec_lt k 5120) (dec_lt k (5120 + n))
  where
    go : Dec (k < 4096) → Dec (k < 5120) → Dec (k < 5120 + n) → get_or v k 0 ≡ get_or w k 0
    go (yes a) b c = p.below.same k (omega arith) a ∙ sym (q.below.same k (omega arith) a)
    go (no a) (yes b) c = subst (λ (j : ℕ). get_or v j 0 ≡ get_or w j 0) (omega arith) (p.firsts (k - 4096) (omega arith) ∙ sym (q.firsts (k - 4096) (omega arith)))
    go (no a) (no b) (yes c) =
        subst (λ (j : ℕ). get_or v j 0 ≡ get_or w j 0) (omega arith) (p.nexts (k - 5120) (omega arith) (omega arith) ∙ sym (q.nexts (k - 5120) (omega arith) (omega arith)))
    go (no a) (no b) (no c) = p.above.same k (omega arith) h ∙ sym (q.above.same k (omega arith) h)

pub index_make_index : (κs : _) (a : _) (r r' : _) (s s' : _) → index-make-index-reads.Post κs a r s → index-make-index-reads.Post κs a r' s'
    → length a.1.0.now ≡ 16384 → s.1.0.now ≡ s'.1.0.now
index_make_index κs a r r' s s' p q h = ext_get_or 0 _ _ (p.below.size ∙ sym q.below.size) (λ k i. index_word _ _ _ _ _ _ p q k (subst (λ (n : ℕ). k < n) (p.below.size ∙ h) i))
