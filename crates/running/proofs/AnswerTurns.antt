-- A turn that is an answer: given, the last one wanted, or cut off by a limit.
use mathlib.Core.Path.{◌≡◌, refl, sym, ◌∙◌, ap}
use mathlib.Core.Bool.{Bool, true, false}
use mathlib.Core.List.{List, [], ◌++◌}
use Prim.Native.Nat.{ℕ, suc, ◌+◌, ◌-◌, ◌/◌, ◌≤◌, ◌<◌}
use native.Mathlib.Omega.{arith}
use native.Mathlib.Decide.{dec_lt}
use lib.Dec.{eqb}
use mir.Val.{bool_byte}
use lib.ListN.{length}
use borrow.Author.Tests.{eq-eqb, ne_eqb}
use Rattle.machine.specs.declared.Limit.{Limit}
use Rattle.machine.specs.declared.Ending.TheVariants.{Enough, Stopped}
use Rattle.machine.specs.declared.Tally.{Tally}
use Rattle.machine.specs.Machine.{Branch, Thread, solving}
use Rattle.machine.specs.Answers.{Line, Written, written, cut, write, unknown_terms}
use Rattle.machine.specs.Run.{Request, State, Result, ended, given as given_tally, go_on, answering}
use Rattle.machine.specs.Call.{filled_buffer}
use Rattle.words.specs.Words.{store_of}
use Rattle.words.specs.Frame.{Keeps}
use Rattle.branch.proofs.StateLaws.{sound_agree, waiting_agree}
use Rattle.seeking.proofs.MemoLaws.{memo_kept}
use Rattle.steps.specs.declared.Branch.{Branch as Held}
use Rattle.steps.specs.declared.Regs.{Regs}
use Rattle.steps.specs.Search.{run_out, run_on, tops_of, back_regs, Stands.going_back}
use Rattle.steps.proofs.RunLaws.{at_thread}
use Rattle.std.proofs.Common.{Ok, Err, Result as Answered, Some}
use Rattle.answers.specs.Buffer.{answer_for, reply_of, buffer_after}
use Rattle.answers.proofs.CallerLaws.{Given, Given.given, Given.stopped, gives}
use Rattle.running.specs.declared.Turned.TheVariants.{On, Over}
use Rattle.words.proofs.StackLaws.{keeps_narrow}
use Rattle.seeking.proofs.SeekChain.{all_same}
use Rattle.branch.proofs.FromScoped.{own_ready}
use Rattle.running.specs.Turns.{Taken, request_of, Midway, TurnGives, TurnGives.turns_on, TurnGives.turns_over, one_more}
use Rattle.running.proofs.HandLaws.{InHand, hand, list_empty, unit_answered, answer_agree}

-- the tally, as the machine counts and as the code does
counted_more : (y : Tally) (b : Branch) (supposed : Bool) → b.supposed ≡ supposed → given_tally y b ≡ one_more y supposed
unfolding given_tally one_more
counted_more y b supposed e = rw e (go supposed)
  where
    u : suc y.units ≡ y.units + 1
    u = omega arith

    a : suc y.answers ≡ y.answers + 1
    a = omega arith

    s : suc y.assumed ≡ y.assumed + 1
    s = omega arith

    go : (x : Bool) → ◌≡◌ {A = Tally} (record { units = suc y.units; answers = suc y.answers; assumed = elim x [ true ↦ suc y.assumed | false ↦ y.assumed ] })
        (record { units = y.units + 1; answers = y.answers + 1; assumed = elim x [ true ↦ y.assumed + 1 | false ↦ y.assumed ] })
    go true = rw (u, a, s) refl
    go false = rw (u, a) refl

-- as the code says it: the flag as a number is added
pub more_by_flag : (y : Tally) (supposed : Bool) (n : ℕ) → n ≡ bool_byte supposed
    → ◌≡◌ {A = Tally} (record { units = y.units + 1; answers = y.answers + 1; assumed = y.assumed + n }) (one_more y supposed)
unfolding one_more
more_by_flag y supposed n e = rw e (go supposed)
  where
    z : y.assumed + 0 ≡ y.assumed
    z = omega arith

    go : (x : Bool) → ◌≡◌ {A = Tally} (record { units = y.units + 1; answers = y.answers + 1; assumed = y.assumed + bool_byte x })
        (record { units = y.units + 1; answers = y.answers + 1; assumed = elim x [ true ↦ y.assumed + 1 | false ↦ y.assumed ] })
    go true = refl
    go false = rw z refl

-- at most as many assumed answers as answers
more_assumed : (y : Tally) (supposed : Bool) → y.assumed ≤ y.answers → (one_more y supposed).assumed ≤ (one_more y supposed).answers
unfolding one_more
more_assumed y true h = omega arith
more_assumed y false h = omega arith

-- an answer on branch b, with records ls
module _ (wanted : ℕ) (s : State) (b : Branch) (ls : List Line) where
  answering_last : eqb (suc s.tally.answers) wanted ≡ true → answering wanted s b (written ls) ≡ ended Enough (given_tally s.tally b) (s.lines ++ ls)
  unfolding answering
  answering_last e = rw (answering, e) refl

  answering_on : eqb (suc s.tally.answers) wanted ≡ false → answering wanted s b (written ls) ≡ go_on (given_tally s.tally b) (s.lines ++ ls) s.waiting
  unfolding answering
  answering_on e = rw (answering, e) refl

module _ (q : Request) (n : ℕ) (b : Branch) (ts : List Thread) (y : Tally) (lines : List Line) (supposed : Bool) (e : b.supposed ≡ supposed) where
  abbrev Going : Written → Result
  Going w = run_out q n (answering q.wanted (at_thread (solving b) ts y lines) b w)

  run_cut : (m : Limit) → Going (cut m) ≡ record { ending = Stopped m; tally = y; lines = lines }
  unfolding answering run_out
  run_cut m = refl

  run_enough : (ls : List Line) → y.answers + 1 ≡ q.wanted → Going (written ls) ≡ record { ending = Enough; tally = one_more y supposed; lines = lines ++ ls }
  unfolding run_out
  run_enough ls h =
      ap (run_out q n) (answering_last q.wanted (at_thread (solving b) ts y lines) b ls (eq-eqb (suc y.answers) q.wanted (omega arith)))
      ∙ ap (λ (z : Tally). record { ending = Enough; tally = z; lines = lines ++ ls }) (counted_more y b supposed e)

  run_more : (ls : List Line) → (y.answers + 1 ≡ q.wanted → ⊥) → Going (written ls) ≡ run_on q n (one_more y supposed) (lines ++ ls) ts
  unfolding run_on
  run_more ls h =
      let t : eqb (suc y.answers) q.wanted ≡ false = ne_eqb (suc y.answers) q.wanted (λ x. let g : y.answers + 1 ≡ q.wanted = omega arith in absurd (h g)) in
      ap (run_out q n) (answering_on q.wanted (at_thread (solving b) ts y lines) b ls t)
      ∙ ap (λ (z : Tally). run_out q n (go_on z (lines ++ ls) ts)) (counted_more y b supposed e)

lt_by : (a n b : ℕ) → b ≡ a + 1 → a < n → (b ≡ n → ⊥) → b < n
lt_by a n b e h u = go (dec_lt b n)
  where
    go : Dec (b < n) → b < n
    go (yes p) = p
    go (no p) = let x : b ≡ n = omega arith in absurd (u x)

absurd_answer {ℓ} : {X : Type ℓ} → ◌≡◌ {A = ℕ} 0 1 → X
absurd_answer z = absurd (omega arith)

module _ (book : List ℕ) (unknowns wanted size budget : ℕ) (ws ws' out out' : List ℕ) (r : Regs) (y : Tally) (end : ℕ) (whole : Result)
    (T : Taken book unknowns wanted size) (M : Midway book unknowns wanted size budget ws out r y end whole) {held : Held} (s : r.branch ≡ Some held) (c : held.cell ≡ 0) (l : y.units < budget) (K : Keeps 0 16128 ws ws') where
  abbrev H : InHand book ws r held M.threads
  H = hand M.stands s

  abbrev W : Written
  W = write y.answers (store_of book ws r.made) (size / 8 - length M.lines) [] (unknown_terms unknowns)

  abbrev Then : Written → Result
  Then w = Going (request_of unknowns wanted size) (budget - (y.units + 1)) H.branch H.rest y M.lines held.supposed H.branch_is.supposed_same w

  whole_is : whole ≡ Then W
  whole_is =
      let z : budget - y.units ≡ suc (budget - (y.units + 1)) = omega arith in
      M.same_run ∙ ap (λ (n : ℕ). run_on (request_of unknowns wanted size) n y M.lines M.threads) z
      ∙ ap (λ (ts : List Thread). run_on (request_of unknowns wanted size) (suc (budget - (y.units + 1))) y M.lines ts) H.is
      ∙ unit_answered (request_of unknowns wanted size) (budget - (y.units + 1)) H.branch H.rest y M.lines (list_empty c H.branch_is.goals)
      ∙ ap (λ z. Then (write y.answers z (size / 8 - length M.lines) [] (unknown_terms unknowns))) H.branch_is.store

  cut_by : (m : Limit) (w : Written) (a : Answered ℕ Limit) → Given size M.lines out' w a → a ≡ Err m → whole ≡ Then w
      → TurnGives book unknowns wanted size budget ws' out' r y whole (Over (Stopped m) y)
  cut_by m (cut k) a (stopped o) q e =
      let i : k ≡ m = cc in
      let x : whole ≡ record { ending = Stopped m; tally = y; lines = M.lines } = rw i at e ∙ run_cut (request_of unknowns wanted size) _ _ _ y M.lines _ H.branch_is.supposed_same m in
      turns_over (ap (λ z. z.ending) x) (ap (λ z. z.tally) x) (o ∙ ap (λ z. filled_buffer size z.lines) (sym x))
  cut_by m (written ls) a (given g h o) q e = absurd_answer (cc)

  enough_by : (k : ℕ) (z : Tally) (w : Written) (a : Answered ℕ Limit) → Given size M.lines out' w a → a ≡ Ok k → whole ≡ Then w → z ≡ one_more y held.supposed → z.answers ≡ wanted
      → TurnGives book unknowns wanted size budget ws' out' r y whole (Over Enough z)
  unfolding one_more
  enough_by k z (written ls) a (given g h o) q e p u =
      let v : y.answers + 1 ≡ wanted = sym (ap (λ t. t.answers) p) ∙ u in
      let x : whole ≡ record { ending = Enough; tally = one_more y held.supposed; lines = M.lines ++ ls } = e ∙ run_enough (request_of unknowns wanted size) _ _ _ y M.lines _ H.branch_is.supposed_same ls v in
      turns_over (ap (λ t. t.ending) x) (ap (λ t. t.tally) x ∙ sym p) (o ∙ ap (λ t. filled_buffer size t.lines) (sym x))
  enough_by k z (cut m) a (stopped o) q e p u = absurd_answer (cc)

  more_by : (k : ℕ) (z : Tally) (w : Written) (a : Answered ℕ Limit) → Given size M.lines out' w a → a ≡ Ok k → whole ≡ Then w → z ≡ one_more y held.supposed → (z.answers ≡ wanted → ⊥)
      → TurnGives book unknowns wanted size budget ws' out' r y whole (On z (back_regs r) k)
  unfolding one_more back_regs
  more_by k z (written ls) a (given {e = j} g h o) q e p u =
      let i : j ≡ k = cc in
      let za : z.answers ≡ y.answers + 1 = ap (λ t. t.answers) p in
      let zu : z.units ≡ y.units + 1 = ap (λ t. t.units) p in
      let v : y.answers + 1 ≡ wanted → ⊥ = λ x. u (za ∙ x) in
      let A = answer_agree (tops_of r) H.sound K in
      let x = e ∙ run_more (request_of unknowns wanted size) _ _ _ y M.lines _ H.branch_is.supposed_same ls v in
      turns_on {r' = back_regs r} {y' = z} {end' = k}
      (record {
        threads = H.rest;
        lines = M.lines ++ ls;
        stands = going_back refl (sound_agree A H.sound) (waiting_agree A H.sound H.waiting);
        indexed = all_same book (own_ready book T.accepted) (keeps_narrow (omega arith) (omega arith) K) (keeps_narrow (omega arith) (omega arith) K) M.indexed;
        memo = memo_kept (keeps_narrow (omega arith) (omega (arith, H.sound.programs_most)) K) (keeps_narrow (omega arith) (omega arith) K) (omega arith) (omega arith) M.memo;
        within = omega arith;
        fewer = lt_by y.answers wanted z.answers za M.fewer u;
        assumed_few = rw p (more_assumed y held.supposed M.assumed_few);
        room = omega arith;
        buffer = o;
        end_is = sym i ∙ g;
        same_run = rw p x;
      })
      (omega arith)
  more_by k z (cut m) a (stopped o) q e p u = absurd_answer (cc)

  -- what write_answer gives
  module _ (a : Answered ℕ Limit) (re : a ≡ reply_of end (answer_for book r.made ws out end y.answers unknowns)) (be : out' ≡ buffer_after out end (answer_for book r.made ws out end y.answers unknowns)) where
    G : Given size M.lines out' W a
    G = gives size M.lines M.room book r.made ws y.answers unknowns out out' end a M.buffer M.end_is re be

    pub answer_cut : (m : Limit) → a ≡ Err m → TurnGives book unknowns wanted size budget ws' out' r y whole (Over (Stopped m) y)
    answer_cut m q = cut_by m W a G q whole_is

    pub answer_enough : (k : ℕ) (z : Tally) → a ≡ Ok k → z ≡ one_more y held.supposed → z.answers ≡ wanted → TurnGives book unknowns wanted size budget ws' out' r y whole (Over Enough z)
    answer_enough k z q p u = enough_by k z W a G q whole_is p u

    pub answer_more : (k : ℕ) (z : Tally) (x : Regs) → a ≡ Ok k → z ≡ one_more y held.supposed → (z.answers ≡ wanted → ⊥) → x ≡ back_regs r
        → TurnGives book unknowns wanted size budget ws' out' r y whole (On z x k)
    answer_more k z x q p u xe = rw xe (more_by k z W a G q whole_is p u)
