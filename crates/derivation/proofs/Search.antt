-- The run: every answer given is right, and every filling that is right is an instance of an answer given or solves a thread that waits.
-- When no thread is left, the second is what a complete search promises.
use mathlib.Core.Path.{◌≡◌, refl, ap, sym, ◌∙◌, subst}
use mathlib.Core.Logic.{◌⊎◌, inl, inr}
use mathlib.Core.List.{List, [], ◌∷◌, ◌++◌, map, append_assoc}
use mathlib.Core.Bool.{Bool, true, false}
use Prim.Native.Nat.{ℕ, suc, zero, ◌+◌, ◌-◌, ◌≤◌}
use native.Mathlib.Omega.{arith}
use native.Mathlib.Nat.{zero-add}
use lib.Dec.{eqb}
use lib.ListN.{length, length-append, length-map}
use Rattle.machine.specs.declared.Limit.TheVariants.{Budget}
use Rattle.machine.specs.declared.Ending.{Ending}
use Rattle.machine.specs.declared.Ending.TheVariants.{Complete, Enough, Stopped}
use Rattle.machine.specs.declared.Tally.{Tally}
use Rattle.machine.specs.Term.{Term, sub}
use Rattle.machine.specs.Store.{Entry}
use Rattle.machine.specs.Machine.{Branch, Thread, solving, entering, unifying, looking, Moved, on, answered, stop, advance}
use Rattle.machine.specs.Answers.{Line, Written, written, cut, write, unknown_terms, terms_of}
use Rattle.machine.specs.Run.{Request, State, Outgoing, next, ended, counted, given, go_on, answering, after, step, Result, run}
use Rattle.derivation.specs.Derivation.{filling_of}
use Rattle.derivation.specs.Given.{AnswerOf, store_if, given_by, stores_given}
use Rattle.derivation.specs.Demand3.{Renumbered}
use Rattle.derivation.proofs.Lists.{All, first, others, alone, join, Some, here, later, cases, none_of, some_left, some_right, some_split, append_none, map_append}
use Rattle.derivation.proofs.Inside.{Agree, agree_less}
use Rattle.derivation.proofs.Satisfying.{Sat}
use Rattle.derivation.proofs.Meaning.{Sol}
use Rattle.derivation.proofs.Unify.{Under}
use Rattle.derivation.proofs.Good.{Good, GoodBranch, AllGood}
use Rattle.derivation.proofs.GoodMoves.{advance_good}
use Rattle.derivation.proofs.Sound.{advance_sound}
use Rattle.derivation.proofs.Complete.{Over, made_of, advance_complete}
use Rattle.derivation.proofs.Answer.{solution_terms, solution_answer, instance_satisfies, satisfying_instance}
use Rattle.derivation.proofs.Writing.{Tagged, Says, write_says, says_renumbered}
use Rattle.derivation.proofs.Buffer.{flatten, flatten_more, Numbered, numbered_more}

-- every thread of a run has at least the unknowns
good_above : (u : ℕ) (th : Thread) → Good u th → u ≤ made_of th
unfolding made_of
good_above u (solving b) h = h.unknowns
good_above u (entering b a c cs) h = h.0.unknowns
good_above u (unifying b p ps) h = h.0.unknowns
good_above u (looking b v f ts x us ps) h = h.0.unknowns

-- an answer given: the store of its branch, its terms and its records
pub record Group : Type 0 where
  pub store : List Entry
  pub terms : List Term
  pub lines : List Line

abbrev pub stores_in : List Group → List (List Entry)
stores_in gs = map (λ (g : Group). g.store) gs

abbrev pub lines_in : List Group → List (List Line)
lines_in gs = map (λ (g : Group). g.lines) gs

-- The run was started for what is `Asked` of a filling of the u unknowns; the buffer has so many places.
module _ (u places : ℕ) (Asked : (ℕ → Term) → Type 0) (asked_same : (σ τ : ℕ → Term) → Agree u σ τ → Asked σ → Asked τ) where
  -- the terms are the store's answer, every instance is right, and the records say them
  pub record RightGroup (g : Group) : Type 0 where
    pub reads : AnswerOf g.store u g.terms
    pub right : (τ : ℕ → Term) → Asked (filling_of (map (sub τ) g.terms))
    pub said : Renumbered g.terms (terms_of g.lines)

  -- σ is, on the unknowns, an instance of the answer
  abbrev pub Covers : (ℕ → Term) → Group → Type 0
  Covers σ g = (τ : ℕ → Term) × Agree u σ (filling_of (map (sub τ) g.terms))

  -- n answers, from the stores ss, in the records ls
  pub record Output (ss : List (List Entry)) (n : ℕ) (ls : List Line) : Type 0 where
    pub groups : List Group
    pub stores : ss ≡ stores_in groups
    pub counts : n ≡ length groups
    pub whole : ls ≡ flatten (lines_in groups)
    pub numbered : Numbered 0 (lines_in groups)
    pub fits : length ls ≤ places
    pub rights : All RightGroup groups

  -- what holds while threads are left
  pub record Inv (ths : List Thread) (ss : List (List Entry)) (n : ℕ) (ls : List Line) : Type 0 where
    pub output : Output ss n ls
    pub good : All (Good u) ths
    pub sound : (σ : ℕ → Term) → Some (Sol σ) ths → Asked σ
    pub covered : (σ : ℕ → Term) → Asked σ → Some (Covers σ) output.groups ⊎ ((τ : ℕ → Term) × Agree u σ τ × Some (Sol τ) ths)

  -- what holds at the end
  pub record Final (e : Ending) (ss : List (List Entry)) (n : ℕ) (ls : List Line) : Type 0 where
    pub output : Output ss n ls
    pub covered : e ≡ Complete → (σ : ℕ → Term) → Asked σ → Some (Covers σ) output.groups

  abbrev Outgoing-ok : List (List Entry) → Outgoing → Type 0
  Outgoing-ok ss (next s) = Inv (s.thread ∷ s.waiting) ss s.tally.answers s.lines
  Outgoing-ok ss (ended e y ls) = Final e ss y.answers ls

  -- AN ENDING

  -- one that is not complete
  abbrev Open : Ending → Type 0
  Open Complete = ⊥
  Open Enough = Unit {0}
  Open (Stopped m) = Unit {0}

  not_complete : {ss : List (List Entry)} {n : ℕ} {ls : List Line} (e : Ending) → Open e → Output ss n ls → Final e ss n ls
  not_complete e o out = record { output = out; covered = λ q. absurd (subst Open q o) }

  -- a unit that gives no answer
  same_output : {ss : List (List Entry)} {n : ℕ} {ls : List Line} → Output ss n ls → Output (ss ++ []) n ls
  same_output {ss} {n} {ls} out = subst (λ (x : List (List Entry)). Output x n ls) (sym (append_none ss)) out

  go_on_ok : (y : Tally) (ls : List Line) (ths : List Thread) (ss : List (List Entry)) → Inv ths ss y.answers ls → Outgoing-ok ss (go_on y ls ths)
  unfolding go_on
  go_on_ok y ls [] ss i = record { output = i.output; covered = λ q σ z. go σ (i.covered σ z) }
    where
      go : (σ : ℕ → Term) → Some (Covers σ) i.output.groups ⊎ ((τ : ℕ → Term) × Agree u σ τ × Some (Sol τ) []) → Some (Covers σ) i.output.groups
      go σ (inl s) = s
      go σ (inr t) = absurd (none_of t.2)
  go_on_ok y ls (t ∷ ts) ss i = i

  module _ (th : Thread) (ths : List Thread) (ss : List (List Entry)) (n : ℕ) (ls : List Line) (i : Inv (th ∷ ths) ss n ls) where
    -- THE THREAD IN HAND IS REPLACED by others that have its solutions

    on_ok : (ts : List Thread) → All (Good u) ts → ((σ : ℕ → Term) → Some (Sol σ) ts → Sol σ th)
        → ((σ : ℕ → Term) → Sol σ th → Over (made_of th) σ (on ts)) → Inv (ts ++ ths) ss n ls
    on_ok ts g under over = record {
      output = i.output;
      good = join g (others i.good);
      sound = λ σ s. back σ (some_split ts ths s);
      covered = λ σ z. forth σ (i.covered σ z);
    }
      where
        back : (σ : ℕ → Term) → Some (Sol σ) ts ⊎ Some (Sol σ) ths → Asked σ
        back σ (inl s) = i.sound σ (here (under σ s))
        back σ (inr s) = i.sound σ (later s)

        replaced : (σ τ : ℕ → Term) → Agree u σ τ → Over (made_of th) τ (on ts) → (ρ : ℕ → Term) × Agree u σ ρ × Some (Sol ρ) (ts ++ ths)
        replaced σ τ a x = (x.0, λ v k. a v k ∙ agree_less u (made_of th) τ x.0 (good_above u th (first i.good)) x.1 v k, some_left ths x.2)

        kept : (σ τ : ℕ → Term) → Agree u σ τ → Some (Sol τ) (th ∷ ths) → (ρ : ℕ → Term) × Agree u σ ρ × Some (Sol ρ) (ts ++ ths)
        kept σ τ a s = cases (λ x. replaced σ τ a (over τ x)) (λ r. (τ, a, some_right ts r)) s

        forth : (σ : ℕ → Term) → Some (Covers σ) i.output.groups ⊎ ((τ : ℕ → Term) × Agree u σ τ × Some (Sol τ) (th ∷ ths))
            → Some (Covers σ) i.output.groups ⊎ ((τ : ℕ → Term) × Agree u σ τ × Some (Sol τ) (ts ++ ths))
        forth σ (inl s) = inl s
        forth σ (inr t) = inr (kept σ t.0 t.1 t.2)

    -- THE THREAD IN HAND IS AN ANSWER: its solutions are the fillings that satisfy its store

    answer_ok : (b : Branch) (g : GoodBranch u b) (ms : List Line) → Says n b.store g.solution (places - length ls) [] (unknown_terms u) ms
        → ((σ : ℕ → Term) → Sat b.store σ → Sol σ th) → ((σ : ℕ → Term) → Sol σ th → Sat b.store σ) → Inv ths (ss ++ (b.store ∷ [])) (suc n) (ls ++ ms)
    answer_ok b g ms w under over = record {
      output = record {
        groups = gs ++ (new ∷ []);
        stores = ap (λ (x : List (List Entry)). x ++ (b.store ∷ [])) i.output.stores ∙ sym (map_append (λ (x : Group). x.store) gs (new ∷ []));
        counts = let c = i.output.counts in let d = length-append gs (new ∷ []) in omega arith;
        whole = ap (λ (x : List Line). x ++ ms) i.output.whole ∙ sym (flatten_more (lines_in gs) ms) ∙ ap flatten (sym lines_more);
        numbered = subst (Numbered 0) (sym lines_more) (numbered_more 0 (lines_in gs) ms i.output.numbered tags);
        fits = let f = i.output.fits in let m = w.fits in let d = length-append ls ms in omega arith;
        rights = join i.output.rights (alone new (record {
          reads = solution_answer u b.store g.solution g.solves w.values;
          right = right;
          said = says_renumbered n b.store g.solution room [] (unknown_terms u) ms w;
        }));
      };
      good = others i.good;
      sound = λ σ s. i.sound σ (later s);
      covered = λ σ z. forth σ (i.covered σ z);
    }
      where
        room : ℕ
        room = places - length ls

        gs : List Group
        gs = i.output.groups

        new : Group
        new = record { store = b.store; terms = solution_terms u b.store g.solution g.solves; lines = ms }

        lines_more : lines_in (gs ++ (new ∷ [])) ≡ lines_in gs ++ (ms ∷ [])
        lines_more = map_append (λ (x : Group). x.lines) gs (new ∷ [])

        tags : All (Tagged (0 + length (lines_in gs))) ms
        tags =
            let e : n ≡ 0 + length (lines_in gs) = i.output.counts ∙ sym (length-map gs (λ (x : Group). x.lines)) ∙ sym (zero-add (length (lines_in gs))) in
            rw e at w.tagged

        right : (τ : ℕ → Term) → Asked (filling_of (map (sub τ) new.terms))
        right τ =
            let x = instance_satisfies u b.store g.solution g.solves τ in
            asked_same x.0 _ x.2 (i.sound x.0 (here (under x.0 x.1)))

        covers : (σ τ : ℕ → Term) → Agree u σ τ → Sat b.store τ → Covers σ new
        covers σ τ a q = (τ, λ v l. a v l ∙ satisfying_instance u b.store g.solution g.solves τ q v l)

        forth : (σ : ℕ → Term) → Some (Covers σ) gs ⊎ ((τ : ℕ → Term) × Agree u σ τ × Some (Sol τ) (th ∷ ths))
            → Some (Covers σ) (gs ++ (new ∷ [])) ⊎ ((τ : ℕ → Term) × Agree u σ τ × Some (Sol τ) ths)
        forth σ (inl s) = inl (some_left (new ∷ []) s)
        forth σ (inr t) = cases (λ x. inl (some_right gs (here (covers σ t.0 t.1 (over t.0 x))))) (λ r. inr (t.0, t.1, r)) t.2

  -- ONE UNIT, and the run

  module _ (q : Request) (qu : q.unknowns ≡ u) (qp : q.places ≡ places) where
    after_ok : (s : State) (m : Moved) (ss : List (List Entry)) → Inv (s.thread ∷ s.waiting) ss s.tally.answers s.lines
        → AllGood u m → ((σ : ℕ → Term) → Under σ (Sol σ s.thread) m) → ((σ : ℕ → Term) → Sol σ s.thread → Over (made_of s.thread) σ m)
        → Outgoing-ok (ss ++ given_by q s m) (after q s m)
    unfolding after counted answering given given_by store_if
    after_ok s (on ts) ss i g under over = go_on_ok (counted s.tally) s.lines (ts ++ s.waiting) (ss ++ [])
        (subst (λ (x : List (List Entry)). Inv (ts ++ s.waiting) x s.tally.answers s.lines) (sym (append_none ss))
        (on_ok s.thread s.waiting ss s.tally.answers s.lines i ts g under over))
    after_ok s (answered b) ss i g under over = go W refl
      where
        W : Written
        W = write s.tally.answers b.store (q.places - length s.lines) [] (unknown_terms q.unknowns)

        says : (ms : List Line) → W ≡ written ms → Says s.tally.answers b.store g.solution (places - length s.lines) [] (unknown_terms u) ms
        says ms e = rw (qu, qp) at (write_says s.tally.answers b.store g.solution g.falling g.solves (q.places - length s.lines) [] (unknown_terms q.unknowns) ms e)

        inv : (ms : List Line) → W ≡ written ms → Inv s.waiting (ss ++ (b.store ∷ [])) (suc s.tally.answers) (s.lines ++ ms)
        inv ms e = answer_ok s.thread s.waiting ss s.tally.answers s.lines i b g ms (says ms e) under over

        end : (ms : List Line) → W ≡ written ms → (t : Bool)
            → Outgoing-ok (ss ++ (b.store ∷ [])) (elim t [ true ↦ ended Enough (given s.tally b) (s.lines ++ ms) | false ↦ go_on (given s.tally b) (s.lines ++ ms) s.waiting ])
        end ms e true = not_complete Enough tt (inv ms e).output
        end ms e false = go_on_ok (given s.tally b) (s.lines ++ ms) s.waiting (ss ++ (b.store ∷ [])) (inv ms e)

        go : (w : Written) → W ≡ w → Outgoing-ok (ss ++ store_if b w) (answering q.wanted s b w)
        go (cut l) e = not_complete (Stopped l) tt (same_output i.output)
        go (written ms) e = end ms e (eqb (suc s.tally.answers) q.wanted)
    after_ok s (stop l) ss i g under over = not_complete (Stopped l) tt (same_output i.output)

    step_ok : (s : State) (ss : List (List Entry)) → Inv (s.thread ∷ s.waiting) ss s.tally.answers s.lines
        → Outgoing-ok (ss ++ given_by q s (advance s.thread)) (step q s)
    unfolding step
    step_ok s ss i = after_ok s (advance s.thread) ss i (advance_good u s.thread (first i.good))
        (λ σ. advance_sound u σ s.thread (first i.good)) (λ σ. advance_complete u σ s.thread (first i.good))

    pub run_ok : (n : ℕ) (s : State) (ss : List (List Entry)) → Inv (s.thread ∷ s.waiting) ss s.tally.answers s.lines
        → Final (run q n s).ending (ss ++ stores_given q n s) (run q n s).tally.answers (run q n s).lines
    unfolding run stores_given
    run_ok zero s ss i = not_complete (Stopped Budget) tt (same_output i.output)
    run_ok (suc n) s ss i = subst
        (λ (x : List (List Entry)). Final (run q (suc n) s).ending x (run q (suc n) s).tally.answers (run q (suc n) s).lines)
        (append_assoc ss now (others_given (step q s))) (go (λ t j. run_ok n t (ss ++ now) j) (step q s) (step_ok s ss i))
      where
        now : List (List Entry)
        now = given_by q s (advance s.thread)

        rest : Outgoing → Result
        rest x = elim x as (λ z. Result) [ next t ↦ run q n t | ended e y ls ↦ record { ending = e; tally = y; lines = ls } ]

        others_given : Outgoing → List (List Entry)
        others_given x = elim x as (λ z. List (List Entry)) [ next t ↦ stores_given q n t | ended e y ls ↦ [] ]

        go : ((t : State) → Inv (t.thread ∷ t.waiting) (ss ++ now) t.tally.answers t.lines
            → Final (run q n t).ending ((ss ++ now) ++ stores_given q n t) (run q n t).tally.answers (run q n t).lines)
            → (x : Outgoing) → Outgoing-ok (ss ++ now) x → Final (rest x).ending ((ss ++ now) ++ others_given x) (rest x).tally.answers (rest x).lines
        go ih (next t) k = ih t k
        go ih (ended e y ls) k = rw (append_none (ss ++ now)) k
