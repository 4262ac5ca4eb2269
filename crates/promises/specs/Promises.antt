-- THE PROMISES: what every call of `engine::solve` keeps, for every book, budget, number of answers wanted, workspace and answer buffer. Nothing is assumed of them.
-- `Allowed` is the contract of `solve`; proofs/Kept proves each promise of whatever is allowed, and that the contracts of `solve` and of the C function allow nothing else.
-- Cited, each with the sentences of document 01 that it says: `verdict` (book, Refusals: tests 1 to 7 in order), `run_of` and `filled_buffer` (machine, Call: the run of the
-- machine, unit by unit, and the answer records with zeros after them), `AnswersRight` and `SearchComplete` (derivation, Demand3).
use Rattle.std.specs.Prelude.{◌≡◌, List, [], ◌∷◌, ◌≢◌, ℕ, ◌≤◌, length, replicate, Ok, Err}
use Rattle.book.specs.declared.Refusal.{Refusal}
use Rattle.book.specs.Scan.{Verdict}
use Rattle.book.specs.Refusals.{test_number, verdict, verdict_numbers}
use Rattle.machine.specs.declared.Reply.{Reply}
use Rattle.machine.specs.Run.{Result, ending_number}
use Rattle.machine.specs.Call.{Called, call, no_counts, run_of, filled_buffer, reply_numbers}
use Rattle.derivation.specs.Demand3.{AnswersRight, SearchComplete}

-- THE CONTRACT: the reply, every word of the workspace and every byte of the answer buffer afterwards (marked ') are those of `call`.
pub record Allowed (book : List ℕ) (budget wanted : ℕ) (ws out : List ℕ) (reply : Reply) (ws' out' : List ℕ) : Type 0 where
  pub replied : reply ≡ (call book budget wanted ws out).reply
  pub words : ws' ≡ (call book budget wanted ws out).workspace
  pub bytes : out' ≡ (call book budget wanted ws out).out

-- The tests' verdict on a call, and the reply, in this paper's numbers: refused, `number ∷ record ∷ []`; accepted, `ending ∷ answers ∷ assumed ∷ units ∷ []`.
abbrev pub verdict_on : List ℕ → ℕ → List ℕ → List ℕ → Verdict
verdict_on book wanted ws out = verdict (length ws) (length out) wanted book

-- the reply is a refusal, by test number t, at record r
abbrev pub Declined : Reply → ℕ → ℕ → Type 0
Declined reply t r = (e : Refusal) × (reply.outcome ≡ Err e) × (test_number e.test ≡ t) × (e.failing ≡ r)

module _ (book : List ℕ) (budget wanted : ℕ) (ws out : List ℕ) (reply : Reply) (ws' out' : List ℕ) where
  -- DEMAND 1: one result, and a refusal exactly when the tests say so

  -- "any two results allowed by it agree": reply, every word, every byte
  pub record OneResult : Type 0 where
    pub same_reply : (other : Reply) (v o : List ℕ) → Allowed book budget wanted ws out other v o → reply ≡ other
    pub same_words : (other : Reply) (v o : List ℕ) → Allowed book budget wanted ws out other v o → ws' ≡ v
    pub same_bytes : (other : Reply) (v o : List ℕ) → Allowed book budget wanted ws out other v o → out' ≡ o

  -- "given exactly when": the reply's numbers are t and r if and only if the tests say t and r
  pub record RefusedExactly : Type 0 where
    pub when : (t r : ℕ) → verdict_numbers (verdict_on book wanted ws out) ≡ t ∷ r ∷ [] → reply_numbers reply ≡ t ∷ r ∷ []
    pub only_when : (t r : ℕ) → reply_numbers reply ≡ t ∷ r ∷ [] → verdict_numbers (verdict_on book wanted ws out) ≡ t ∷ r ∷ []

  -- What refusal t at record r leaves: "All counts in the reply are 0"; test 1's "changes nothing. Every other refusal leaves the workspace all zero and the answer buffer .. untouched"
  pub record Leaves (t r : ℕ) : Type 0 where
    pub outcome : Declined reply t r
    pub counts : reply.tally ≡ no_counts
    pub words_of_first : t ≡ 1 → ws' ≡ ws
    pub words_of_others : t ≢ 1 → ws' ≡ replicate (length ws) 0
    pub bytes : out' ≡ out

  pub record Demand1 : Type 0 where
    pub one : OneResult
    pub exactly : RefusedExactly
    pub leaves : (t r : ℕ) → verdict_numbers (verdict_on book wanted ws out) ≡ t ∷ r ∷ [] → Leaves t r

  -- DEMAND 2: an accepted call is the machine's run

  abbrev pub the_run : Result
  the_run = run_of book budget wanted (length out)

  -- ending and counts, the machine's units among them; the answer records, zeros after them; "Every accepted call leaves the workspace all zero"
  pub record AsTheMachine : Type 0 where
    pub outcome : reply.outcome ≡ Ok the_run.ending
    pub counts : reply.tally ≡ the_run.tally
    pub numbers : reply_numbers reply ≡ ending_number the_run.ending ∷ the_run.tally.answers ∷ the_run.tally.assumed ∷ the_run.tally.units ∷ []
    pub within_budget : reply.tally.units ≤ budget
    pub words : ws' ≡ replicate (length ws) 0
    pub bytes : out' ≡ filled_buffer (length out) the_run.lines

  abbrev pub Demand2 : Type 0
  Demand2 = verdict_numbers (verdict_on book wanted ws out) ≡ [] → AsTheMachine

  -- DEMAND 3: said without the machine, of the reply and the bytes

  abbrev pub result : Called
  result = record { reply = reply; workspace = ws'; out = out' }

  -- every answer in the buffer has a derivation, and where the ending is 0 no derivable filling-in is missed
  pub record Demand3 : Type 0 where
    pub right : AnswersRight book result
    pub complete : SearchComplete book result

  -- ALL OF IT

  pub record Promises : Type 0 where
    pub demand1 : Demand1
    pub demand2 : Demand2
    pub demand3 : Demand3
