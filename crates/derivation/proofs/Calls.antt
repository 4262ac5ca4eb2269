-- The answers of a call: what the run's invariant says at the end, for answer k, of its store and of its bytes. Of a refused call there is nothing to say.
use mathlib.Core.Path.{◌≡◌, refl, ap, sym, ◌∙◌, subst}
use mathlib.Core.List.{List, [], map}
use mathlib.Core.Bool.{true, ◌&&◌}
use Prim.Native.Nat.{ℕ, ◌<◌, ◌/◌, ◌%◌}
use native.Mathlib.Omega.{arith}
use lib.Dec.{leb, eqb}
use lib.ListN.{length, get_or, length-map}
use lib.Seq.{ext_get_or}
use Rattle.std.specs.Prelude.{Ok, Err}
use Rattle.book.specs.declared.Refusal.{Refusal}
use Rattle.book.specs.Scan.{Verdict, fine}
use Rattle.book.specs.Tree.{Question}
use Rattle.book.specs.Scoped.{ScopedQuestion}
use Rattle.book.specs.Refusals.{room_fits, verdict}
use Rattle.book.specs.Decode.{question_of}
use Rattle.book.proofs.Tests.{and_true, eqb_says}
use Rattle.book.proofs.Accepted.{Accepted, call_accepted}
use Rattle.book.proofs.AcceptedScoped.{accepted_scoped}
use Rattle.machine.specs.declared.Ending.TheVariants.{Complete}
use Rattle.machine.specs.Term.{Term, app, nil, sub}
use Rattle.machine.specs.Store.{Entry}
use Rattle.machine.specs.Answers.{Line, terms_of, answer_in}
use Rattle.machine.specs.Run.{Result, start}
use Rattle.machine.specs.Call.{Called, filled_buffer, run_of, accepted, declined, call}
use Rattle.derivation.specs.Derivation.{filling_of, Follows}
use Rattle.derivation.specs.Given.{AnswerOf, stores_given, stores_of}
use Rattle.derivation.specs.Demand3.{Derivable, InstanceOf, Renumbered}
use Rattle.derivation.proofs.Lists.{all_at, some_at, map_at}
use Rattle.derivation.proofs.Buffer.{buffer_says}
use Rattle.derivation.proofs.Search.{Group, lines_in, RightGroup, Final}
use Rattle.derivation.proofs.Start.{Asked, asked_same, solved_ok}

-- the answers of a call that left x, from the stores ss
pub record Answered (q : Question) (x : Called) (ss : List (List Entry)) : Type 0 where
  pub terms : ℕ → List Term
  pub counted : length ss ≡ x.reply.tally.answers
  pub reads : (k : ℕ) → k < x.reply.tally.answers → AnswerOf (get_or ss k []) q.unknowns (terms k)
  pub right : (k : ℕ) → k < x.reply.tally.answers → (τ : ℕ → Term) → Follows q (map (sub τ) (terms k))
  pub said : (k : ℕ) → k < x.reply.tally.answers → Renumbered (terms k) (answer_in x.out k)
  pub covers : x.reply.outcome ≡ Ok Complete → (ts : List Term) → Derivable q ts → (k : ℕ) × (k < x.reply.tally.answers) × InstanceOf (terms k) ts

-- A REFUSED CALL

none_answered : (q : Question) (workspace out : List ℕ) (x : Refusal) → Answered q (declined workspace out x) []
unfolding declined
none_answered q workspace out x = record {
  terms = λ k. [];
  counted = refl;
  reads = λ k l. absurd (omega arith);
  right = λ k l. absurd (omega arith);
  said = λ k l. absurd (omega arith);
  covers = λ e. let z : ◌≡◌ {A = ℕ} 0 1 = cc in absurd (omega arith);
}

-- AN ACCEPTED CALL

room_eight : (words buffer wanted : ℕ) → room_fits words buffer wanted ≡ true → buffer % 8 ≡ 0
unfolding room_fits
room_eight words buffer wanted e =
    let x = and_true (eqb words 16384) _ e in
    let y = and_true (leb buffer 65536 && eqb (buffer % 8) 0) _ x.1 in
    let z = and_true (leb buffer 65536) (eqb (buffer % 8) 0) y.0 in
    eqb_says (buffer % 8) 0 z.1

module _ (book : List ℕ) (budget wanted words size : ℕ) (v : verdict words size wanted book ≡ fine) where
  ok : (room_fits words size wanted ≡ true) × Accepted book
  ok = call_accepted words size wanted book v

  in_scope : ScopedQuestion (question_of book)
  in_scope = accepted_scoped book ok.1

  abbrev x : Result
  x = run_of book budget wanted size

  abbrev ss : List (List Entry)
  ss = stores_given (record { unknowns = (question_of book).unknowns; wanted = wanted; places = size / 8 }) budget (start (question_of book))

  final : Final (question_of book).unknowns (size / 8) (Asked (question_of book)) (asked_same (question_of book) in_scope) x.ending ss x.tally.answers x.lines
  unfolding run_of
  final = solved_ok (question_of book) in_scope wanted (size / 8) budget

  -- answer k
  group : ℕ → Group
  group k = get_or final.output.groups k (record { store = []; terms = []; lines = [] })

  group_right : (k : ℕ) → k < x.tally.answers → RightGroup (question_of book).unknowns (size / 8) (Asked (question_of book)) (asked_same (question_of book) in_scope) (group k)
  unfolding group
  group_right k i = all_at final.output.groups _ final.output.rights k (subst (λ (n : ℕ). k < n) final.output.counts i)

  store_is : (k : ℕ) → get_or ss k [] ≡ (group k).store
  unfolding group
  store_is k = ap (λ (l : List (List Entry)). get_or l k []) final.output.stores ∙ map_at (λ (g : Group). g.store) final.output.groups k _

  bytes_say : (k : ℕ) → answer_in (filled_buffer size x.lines) k ≡ terms_of (group k).lines
  unfolding group
  bytes_say k =
      let o = final.output in
      ap (λ (ls : List Line). answer_in (filled_buffer size ls) k) o.whole
      ∙ buffer_says size (lines_in o.groups) o.numbered (rw (ap length o.whole) at o.fits) (room_eight words size wanted ok.0) k
      ∙ ap terms_of (map_at (λ (g : Group). g.lines) o.groups k _)

  accepted_covers : x.ending ≡ Complete → (ts : List Term) → Derivable (question_of book) ts → (k : ℕ) × (k < x.tally.answers) × InstanceOf (group k).terms ts
  unfolding Follows Asked group
  accepted_covers e ts d =
      let o = final.output in
      let r = some_at o.groups (record { store = []; terms = []; lines = [] }) (final.covered e (filling_of ts) d.derived) in
      let i : r.0 < x.tally.answers = subst (λ (n : ℕ). r.0 < n) (sym o.counts) r.1 in
      let τ : ℕ → Term = r.2.0 in
      let g = group r.0 in
      let each : length g.terms ≡ (question_of book).unknowns = (group_right r.0 i).reads.each in
      let len : length ts ≡ (question_of book).unknowns = d.each in
      let long : length (map (sub τ) g.terms) ≡ length ts = length-map g.terms (sub τ) ∙ each ∙ sym len in
      (r.0, i, (τ, ext_get_or (app 0 nil) (map (sub τ) g.terms) ts long (λ o l. sym (r.2.1 o (omega arith)))))

  accepted_answered : Answered (question_of book) (accepted words size x) ss
  unfolding accepted Follows Asked
  accepted_answered = record {
    terms = λ k. (group k).terms;
    counted = ap length final.output.stores ∙ length-map final.output.groups (λ (g : Group). g.store) ∙ sym final.output.counts;
    reads = λ k i. rw (store_is k) (group_right k i).reads;
    right = λ k i. (group_right k i).right;
    said = λ k i. rw (bytes_say k) (group_right k i).said;
    covers = λ e. accepted_covers (cc e);
  }

pub call_answered : (book : List ℕ) (budget wanted : ℕ) (workspace out : List ℕ)
    → Answered (question_of book) (call book budget wanted workspace out) (stores_of book budget wanted workspace out)
unfolding call stores_of
call_answered book budget wanted workspace out = go (verdict (length workspace) (length out) wanted book) refl
  where
    go : (v : Verdict) → verdict (length workspace) (length out) wanted book ≡ v → Answered (question_of book)
        (elim v [ Ok _ ↦ accepted (length workspace) (length out) (run_of book budget wanted (length out)) | Err x ↦ declined workspace out x ])
        (elim v [
          | Ok _ ↦ stores_given (record { unknowns = (question_of book).unknowns; wanted = wanted; places = length out / 8 }) budget (start (question_of book))
          | Err x ↦ []
        ])
    go (Ok _) e = accepted_answered book budget wanted (length workspace) (length out) e
    go (Err x) e = none_answered (question_of book) workspace out x
