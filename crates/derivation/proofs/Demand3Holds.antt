-- Demand 3 holds: the theorems that a user of the library relies on. specs/Demand3 says what each states, `call_answered` (Calls) holds the work.
use mathlib.Core.Path.{◌∙◌, subst}
use mathlib.Core.List.{List}
use Prim.Native.Nat.{ℕ}
use Rattle.book.specs.Decode.{question_of}
use Rattle.machine.specs.Call.{call}
use Rattle.derivation.specs.Derivation.{Follows}
use Rattle.derivation.specs.Given.{stores_of}
use Rattle.derivation.specs.Demand3.{Right, AnswersRight, SearchComplete, OneAnswer, MachineSound, MachineComplete, SameAnswers}
use Rattle.derivation.proofs.Values.{answer_once}
use Rattle.derivation.proofs.Renumbering.{renumbered_length, instance_back, instance_there}
use Rattle.derivation.proofs.Calls.{Answered, call_answered}

module _ (book : List ℕ) (budget wanted : ℕ) (workspace out : List ℕ) where
  proved : Answered (question_of book) (call book budget wanted workspace out) (stores_of book budget wanted workspace out)
  proved = call_answered book budget wanted workspace out

  -- of the machine

  pub one_answer : OneAnswer book budget wanted workspace out
  one_answer k ts us a b = answer_once _ _ ts us a.1 b.1

  pub machine_sound : MachineSound book budget wanted workspace out
  machine_sound k ts a = subst (Right (question_of book)) (answer_once _ _ _ ts (proved.reads k a.0) a.1)
      (record { each = (proved.reads k a.0).each; derived = proved.right k a.0 })

  pub machine_complete : MachineComplete book budget wanted workspace out
  machine_complete e ts d = let r = proved.covers e ts d in (r.0, proved.terms r.0, (r.1, proved.reads r.0 r.1), r.2)

  pub same_answers : SameAnswers book budget wanted workspace out
  same_answers = (proved.counted, λ k i. (proved.terms k, (i, proved.reads k i), proved.said k i))

  -- of the bytes: the renumbered answers have the same instances

  pub answers_right : AnswersRight book (call book budget wanted workspace out)
  answers_right k i = record {
    each = renumbered_length (proved.terms k) _ (proved.said k i) ∙ (proved.reads k i).each;
    derived = λ τ. subst (Follows (question_of book)) (instance_back (proved.terms k) _ (proved.said k i) τ) (proved.right k i (λ v. τ ((proved.said k i).to v)));
  }

  pub search_complete : SearchComplete book (call book budget wanted workspace out)
  search_complete e ts d = let r = proved.covers e ts d in (r.0, r.1, instance_there (proved.terms r.0) _ ts (proved.said r.0 r.1) r.2)
