-- The run at its start, from turn to turn, and at its end.
use mathlib.Core.Path.{◌≡◌, refl, sym, ◌∙◌, ap}
use mathlib.Core.List.{List, [], ◌∷◌}
use Prim.Native.Nat.{ℕ, ◌<◌}
use native.Mathlib.Omega.{arith}
use native.Mathlib.Nat.{sub-zero}
use lib.ListN.{length, replicate}
use Rattle.book.specs.Records.{field, last_record}
use Rattle.book.specs.Decode.{question_of}
use Rattle.machine.specs.declared.Ending.{Ending}
use Rattle.machine.specs.declared.Tally.{Tally}
use Rattle.machine.specs.Answers.{bytes_of}
use Rattle.machine.specs.Run.{Result, go_on, start, solved}
use Rattle.machine.specs.Call.{no_counts, filled_buffer, run_of}
use Rattle.steps.specs.declared.Regs.{Regs}
use Rattle.steps.specs.Search.{run_out, run_on, Stands}
use Rattle.seeking.specs.Seeking.{AllIndexed}
use Rattle.seeking.specs.Memo.{Memo}
use Rattle.running.specs.declared.Turned.{Turned}
use Rattle.running.specs.declared.Turned.TheVariants.{On, Over}
use Rattle.running.specs.Turns.{Taken, request_of, Midway, ahead, TurnGives, TurnGives.turns_on, TurnGives.turns_over}

whole_run : (book : List ℕ) (unknowns wanted budget size : ℕ) → unknowns ≡ field book (last_record book) 4
    → run_of book budget wanted size ≡ run_on (request_of unknowns wanted size) budget no_counts [] ((start (question_of book)).thread ∷ [])
unfolding run_of solved question_of run_on go_on run_out start
whole_run book unknowns wanted budget size e = rw e refl

pub midway_start : (book : List ℕ) (unknowns wanted budget : ℕ) (ws out : List ℕ) (r : Regs) (y : Tally) → y ≡ no_counts → Taken book unknowns wanted (length out) → Stands book ws r ((start (question_of book)).thread ∷ [])
    → AllIndexed book ws × Memo book ws r.programs budget → out ≡ replicate (length out) 0 → Midway book unknowns wanted (length out) budget ws out r y 0 (run_of book budget wanted (length out))
unfolding filled_buffer bytes_of
midway_start book unknowns wanted budget ws out r y e T S N z = rw e (record {
  threads = (start (question_of book)).thread ∷ [];
  lines = [];
  stands = S;
  indexed = N.0;
  memo = rw (sub-zero budget) N.1;
  within = omega arith;
  fewer = omega (arith, T.wanted_some);
  assumed_few = omega arith;
  room = omega arith;
  buffer = z ∙ ap (λ (n : ℕ). replicate n 0) (sym (sub-zero (length out)));
  end_is = refl;
  same_run = whole_run book unknowns wanted budget (length out) T.unknowns_are ∙ ap (λ (n : ℕ). run_on (request_of unknowns wanted (length out)) n no_counts [] ((start (question_of book)).thread ∷ [])) (sym (sub-zero budget));
})

module _ {book : List ℕ} {unknowns wanted size budget : ℕ} {ws' out' : List ℕ} {r : Regs} {y : Tally} {whole : Result} where
  pub run_on_lem : {o : Turned} (y' : Tally) (r' : Regs) (end' : ℕ) → TurnGives book unknowns wanted size budget ws' out' r y whole o → o ≡ On y' r' end'
      → Midway book unknowns wanted size budget ws' out' r' y' end' whole × (ahead budget r' y' < ahead budget r y)
  run_on_lem y' r' end' (turns_on {r' = a} {y' = b} {end' = c} M l) e =
      let p : a ≡ r' = cc in let q : b ≡ y' = cc in let s : c ≡ end' = cc in
      (rw (p, q, s) at M, rw (p, q) at l)
  run_on_lem y' r' end' (turns_over a b c) e = let z : ◌≡◌ {A = ℕ} 0 1 = cc in absurd (omega arith)

  pub run_over : {o : Turned} (d : Ending) (y' : Tally) → TurnGives book unknowns wanted size budget ws' out' r y whole o → o ≡ Over d y'
      → ((d ≡ whole.ending) × (y' ≡ whole.tally)) × (out' ≡ filled_buffer size whole.lines)
  run_over d y' (turns_over {e = a} {y' = b} f g h) e =
      let p : a ≡ d = cc in let q : b ≡ y' = cc in
      ((sym p ∙ sym f, sym q ∙ sym g), h)
  run_over d y' (turns_on M l) e = let z : ◌≡◌ {A = ℕ} 0 1 = cc in absurd (omega arith)
