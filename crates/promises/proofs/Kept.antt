-- The promises are kept: by whatever is allowed, and so by `solve` and by the C function, whose contracts allow nothing else.
use mathlib.Core.Path.{◌≡◌, refl, sym, ◌∙◌, ap, subst}
use mathlib.Core.Logic.{◌≢◌}
use mathlib.Core.List.{List, [], ◌∷◌}
use Prim.Native.Nat.{ℕ}
use native.Mathlib.Omega.{arith}
use lib.ListN.{length, replicate}
use borrow.Author.Tests.{ne_eqb}
use Rattle.std.proofs.Common.{Ok, Err}
use Rattle.book.specs.declared.Refusal.{Refusal}
use Rattle.book.specs.Scan.{Verdict, fine}
use Rattle.book.specs.Refusals.{test_number, verdict_numbers}
use Rattle.machine.specs.declared.Reply.{Reply}
use Rattle.machine.specs.Call.{Called, call, run_of, accepted, declined, reply_numbers}
use Rattle.machine.proofs.CallLaws.{call_taken, call_refused, units_within}
use Rattle.derivation.specs.Demand3.{AnswersRight, SearchComplete}
use Rattle.derivation.proofs.Demand3Holds.{answers_right, search_complete}
use Rattle.capi.specs.Six.{reply_six}
use Rattle.engine.proofs.solve.Reads as solve-reads
use Rattle.capi.proofs.whittermay_solve.Reads as c-reads
use Rattle.promises.specs.Promises.{Allowed, verdict_on, OneResult, Leaves, AsTheMachine, Demand1, Demand2, Demand3, Promises}

absurd_numbers {ℓ} : {X : Type ℓ} → ◌≡◌ {A = ℕ} 0 1 → X
absurd_numbers z = absurd (omega arith)

-- a verdict by its numbers
refused_by : (v : Verdict) (t r : ℕ) → verdict_numbers v ≡ t ∷ r ∷ [] → (e : Refusal) × (v ≡ Err e) × (test_number e.test ≡ t) × (e.failing ≡ r)
unfolding verdict_numbers
refused_by (Ok u) t r e = absurd_numbers (cc)
refused_by (Err x) t r e = (x, refl, cc, cc)

fine_by : (v : Verdict) → verdict_numbers v ≡ [] → v ≡ fine
unfolding verdict_numbers
fine_by (Ok u) e = refl
fine_by (Err x) e = absurd_numbers (cc)

-- the words after refusal 1 and after any other
first_words : (ws out : List ℕ) (x : Refusal) → test_number x.test ≡ 1 → (declined ws out x).workspace ≡ ws
unfolding declined
first_words ws out x e = rw (declined, e) refl

other_words : (ws out : List ℕ) (x : Refusal) → test_number x.test ≢ 1 → (declined ws out x).workspace ≡ replicate (length ws) 0
unfolding declined
other_words ws out x n = rw (declined, ne_eqb (test_number x.test) 1 n) refl

module _ (book : List ℕ) (budget wanted : ℕ) (ws out : List ℕ) (reply : Reply) (ws' out' : List ℕ) (h : Allowed book budget wanted ws out reply ws' out') where
  -- the result is the definition's
  is_call : record { reply = reply; workspace = ws'; out = out' } ≡ call book budget wanted ws out
  is_call = rw (h.replied, h.words, h.bytes) refl

  one_result : OneResult book budget wanted ws out reply ws' out'
  one_result = record {
    same_reply = λ other v o g. h.replied ∙ sym g.replied;
    same_words = λ other v o g. h.words ∙ sym g.words;
    same_bytes = λ other v o g. h.bytes ∙ sym g.bytes;
  }

  module _ (x : Refusal) (e : verdict_on book wanted ws out ≡ Err x) where
    is_declined : record { reply = reply; workspace = ws'; out = out' } ≡ declined ws out x
    is_declined = is_call ∙ call_refused book budget wanted ws out x e

    refused_leaves : Leaves book budget wanted ws out reply ws' out' (test_number x.test) x.failing
    unfolding declined
    refused_leaves = record {
      outcome = (x, ap (λ (c : Called). c.reply.outcome) is_declined, refl, refl);
      counts = ap (λ (c : Called). c.reply.tally) is_declined;
      words_of_first = λ q. ap (λ (c : Called). c.workspace) is_declined ∙ first_words ws out x q;
      words_of_others = λ n. ap (λ (c : Called). c.workspace) is_declined ∙ other_words ws out x n;
      bytes = ap (λ (c : Called). c.out) is_declined;
    }

    numbers_declined : reply_numbers reply ≡ test_number x.test ∷ x.failing ∷ []
    unfolding declined reply_numbers
    numbers_declined = ap (λ (c : Called). reply_numbers c.reply) is_declined

  -- a refusal by its numbers
  module _ (t r : ℕ) (e : verdict_numbers (verdict_on book wanted ws out) ≡ t ∷ r ∷ []) where
    numbers_said : reply_numbers reply ≡ t ∷ r ∷ []
    numbers_said = let x = refused_by _ t r e in rw (x.2, x.3) at (numbers_declined x.0 x.1)

    leaves_said : Leaves book budget wanted ws out reply ws' out' t r
    leaves_said = let x = refused_by _ t r e in rw (x.2, x.3) at (refused_leaves x.0 x.1)

  module _ (e : verdict_on book wanted ws out ≡ fine) where
    is_accepted : record { reply = reply; workspace = ws'; out = out' } ≡ accepted (length ws) (length out) (run_of book budget wanted (length out))
    is_accepted = is_call ∙ call_taken book budget wanted ws out e

    as_the_machine : AsTheMachine book budget wanted ws out reply ws' out'
    unfolding accepted reply_numbers
    as_the_machine = record {
      outcome = ap (λ (c : Called). c.reply.outcome) is_accepted;
      counts = ap (λ (c : Called). c.reply.tally) is_accepted;
      numbers = ap (λ (c : Called). reply_numbers c.reply) is_accepted;
      within_budget = rw (ap (λ (c : Called). c.reply.tally.units) is_accepted) (units_within book budget wanted (length out));
      words = ap (λ (c : Called). c.workspace) is_accepted;
      bytes = ap (λ (c : Called). c.out) is_accepted;
    }

  -- an accepted call's reply has four numbers, so two numbers mean a refusal
  only_when_lem : (t r : ℕ) → reply_numbers reply ≡ t ∷ r ∷ [] → verdict_numbers (verdict_on book wanted ws out) ≡ t ∷ r ∷ []
  unfolding verdict_numbers
  only_when_lem t r e = go (verdict_on book wanted ws out) refl
    where
      go : (v : Verdict) → verdict_on book wanted ws out ≡ v → verdict_numbers (verdict_on book wanted ws out) ≡ t ∷ r ∷ []
      go (Ok u) q = absurd_numbers (cc (as_the_machine q).numbers)
      go (Err x) q = rw q (sym (numbers_declined x q) ∙ e)

  demand_1 : Demand1 book budget wanted ws out reply ws' out'
  demand_1 = record {
    one = one_result;
    exactly = record { when = numbers_said; only_when = only_when_lem };
    leaves = leaves_said;
  }

  demand_2 : Demand2 book budget wanted ws out reply ws' out'
  demand_2 e = as_the_machine (fine_by _ e)

  demand_3 : Demand3 book budget wanted ws out reply ws' out'
  demand_3 = record {
    right = subst (AnswersRight book) (sym is_call) (answers_right book budget wanted ws out);
    complete = subst (SearchComplete book) (sym is_call) (search_complete book budget wanted ws out);
  }

  pub promises_kept : Promises book budget wanted ws out reply ws' out'
  promises_kept = record { demand1 = demand_1; demand2 = demand_2; demand3 = demand_3 }

-- THE CONTRACTS OF THE CODE: what they allow of the arguments a, the result r and the parameters at exit s

pub solve_allows : (κs : _) (a : _) (r : _) (s : _) → solve-reads.Post κs a r s
    → Allowed a.0.now a.1.0 a.1.1.0 a.1.1.1.0.now a.1.1.1.1.0.now r s.1.1.1.0.now s.1.1.1.1.0.now
solve_allows κs a r s p = record { replied = p.0; words = p.1.0; bytes = p.1.1 }

pub solve_keeps : (κs : _) (a : _) (r : _) (s : _) → solve-reads.Post κs a r s
    → Promises a.0.now a.1.0 a.1.1.0 a.1.1.1.0.now a.1.1.1.1.0.now r s.1.1.1.0.now s.1.1.1.1.0.now
solve_keeps κs a r s p = promises_kept _ _ _ _ _ _ _ _ (solve_allows κs a r s p)

-- the C function: its six numbers are those of an allowed reply
pub c_allows : (κs : _) (a : _) (r : _) (s : _) → c-reads.Post κs a r s
    → (reply : Reply) × (s.1.1.1.1.1.0.now ≡ reply_six reply)
    × Allowed a.0.now a.1.0 a.1.1.0 a.1.1.1.0.now a.1.1.1.1.0.now reply s.1.1.1.0.now s.1.1.1.1.0.now
c_allows κs a r s p = (_, p.0, record { replied = refl; words = p.1.0; bytes = p.1.1 })
