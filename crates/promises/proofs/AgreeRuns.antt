-- Any two results that a contract allows agree. Answers and runs: the reply and every byte. The words that a run leaves are its scratch; `run_accepted` clears them before a caller sees them.
use mathlib.Core.Path.{◌≡◌, sym, ◌∙◌}
use Prim.Native.Nat.{ℕ, ◌<◌}
use native.Mathlib.Omega.{arith}
use lib.ListN.{get_or}
use Rattle.running.specs.declared.Ran.{Ran}
use Rattle.answers.proofs.put_record.Reads as answers-put-record-reads
use Rattle.answers.proofs.clear.Reads as answers-clear-reads
use Rattle.answers.proofs.write_answer.Reads as answers-write-answer-reads
use Rattle.running.proofs.run.Reads as running-run-reads
use Rattle.starting.proofs.whole_run.Reads as starting-whole-run-reads
use Rattle.lending.proofs.counted_run.Reads as lending-counted-run-reads

pub answers_put_record : (κs : _) (a : _) (r r' : _) (s s' : _) → answers-put-record-reads.Post κs a r s → answers-put-record-reads.Post κs a r' s' → s.0.now ≡ s'.0.now
answers_put_record κs a r r' s s' p q = p ∙ sym q

pub answers_clear : (κs : _) (a : _) (r r' : _) (s s' : _) → answers-clear-reads.Post κs a r s → answers-clear-reads.Post κs a r' s' → s.0.now ≡ s'.0.now
answers_clear κs a r r' s s' p q = p ∙ sym q

-- answers::write_answer: the list of terms, words 16128 up, is its scratch
pub answers_write_answer : (κs : _) (a : _) (r r' : _) (s s' : _) → answers-write-answer-reads.Post κs a r s → answers-write-answer-reads.Post κs a r' s'
    → (r ≡ r') × (s.1.1.1.0.now ≡ s'.1.1.1.0.now) × ((k : ℕ) → k < 16128 → get_or s.1.1.0.now k 0 ≡ get_or s'.1.1.0.now k 0)
answers_write_answer κs a r r' s s' p q =
    (p.0 ∙ sym q.0, p.1.0 ∙ sym q.1.0, λ k i. p.1.1.same k (omega arith) i ∙ sym (q.1.1.same k (omega arith) i))

-- a run's ending and counts
same_ran : (x y : Ran) → x.ending ≡ y.ending → x.tally ≡ y.tally → x ≡ y
same_ran x y e t = λ i. record { ending = e i; tally = t i }

pub running_run : (κs : _) (a : _) (r r' : _) (s s' : _) → running-run-reads.Post κs a r s → running-run-reads.Post κs a r' s' → (r ≡ r') × (s.1.1.0.now ≡ s'.1.1.0.now)
running_run κs a r r' s s' p q = (same_ran r r' (p.0.0 ∙ sym q.0.0) (p.0.1 ∙ sym q.0.1), p.1 ∙ sym q.1)

pub starting_whole_run : (κs : _) (a : _) (r r' : _) (s s' : _) → starting-whole-run-reads.Post κs a r s → starting-whole-run-reads.Post κs a r' s' → (r ≡ r') × (s.1.1.0.now ≡ s'.1.1.0.now)
starting_whole_run κs a r r' s s' p q = (same_ran r r' (p.ending ∙ sym q.ending) (p.tally ∙ sym q.tally), p.buffer ∙ sym q.buffer)

pub lending_counted_run : (κs : _) (a : _) (r r' : _) (s s' : _) → lending-counted-run-reads.Post κs a r s → lending-counted-run-reads.Post κs a r' s' → (r ≡ r') × (s.1.1.0.now ≡ s'.1.1.0.now)
lending_counted_run κs a r r' s s' p q = (same_ran r r' (p.ending ∙ sym q.ending) (p.tally ∙ sym q.tally), p.buffer ∙ sym q.buffer)
