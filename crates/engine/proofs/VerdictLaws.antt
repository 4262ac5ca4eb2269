-- What a verdict says of the call: test 1 alone refuses with number 1; a call that is taken has room and an accepted book.
use mathlib.Core.Path.{◌≡◌, refl, sym, ◌∙◌, ap, subst}
use mathlib.Core.Bool.{Bool, true, false, ◌&&◌}
use mathlib.Core.List.{List, [], ◌∷◌}
use Prim.Native.Nat.{ℕ, zero, suc, ◌%◌, ◌≤◌}
use native.Mathlib.Omega.{arith}
use lib.Dec.{eqb, leb}
use lib.ListN.{length, replicate}
use borrow.Author.Tests.{ne_eqb}
use Rattle.std.proofs.Common.{Ok, Err}
use Rattle.book.specs.declared.Test.{Test}
use Rattle.book.specs.declared.Test.TheVariants.{Room, Size, Kinds, Fields, Targets, Tree}
use Rattle.book.specs.declared.Refusal.{Refusal}
use Rattle.book.specs.Records.{field, records, last_record}
use Rattle.book.specs.Kinds.{Kind, variable_kind, term_kind, link_kind, atom_kind, and_kind, or_kind, suppose_kind, clause_kind, tie_kind, question_kind, no_kind, kind_at}
use Rattle.book.specs.Scan.{Verdict, fine as fine_verdict, refused as refused_verdict, lowest_failing, lower}
use Rattle.book.specs.Scope.{scope_fault, tie_scope, own_tie_scope, over_links, body_scope, scope_by, scope_at, own_clause_scope, scope_test}
use Rattle.book.specs.Refusals.{room_fits, size_fits, kind_ok, fields_ok, targets_ok, kind_test, field_test, target_test, tree_test, record_tests, book_verdict, verdict, test_number}
use Rattle.book.specs.Pointing.{all_pointers, once}
use Rattle.book.proofs.Accepted.{Accepted, call_accepted}
use Rattle.book.proofs.Tests.{and_true, leb_says, eqb_says}
use Rattle.machine.specs.declared.Reply.{Reply}
use Rattle.machine.specs.Call.{no_counts, run_of, accepted, declined, call}
use Rattle.refusals.specs.Passes.{words_after, tested_words}
use Rattle.refusals.proofs.WordLaws.{tested_refused}

-- a verdict that is not test 1's
data Later : Verdict → Type 0 where
  fine : {u : Unit {0}} → Later (Ok u)
  later : {e : Refusal} → 2 ≤ test_number e.test → Later (Err e)

scan_later : (t : Test) (ok : ℕ → Bool) (r n : ℕ) → 2 ≤ test_number t → Later (lowest_failing t ok r n)
unfolding lowest_failing
scan_later t ok r zero h = fine
scan_later t ok r (suc n) h = go (ok r) (scan_later t ok (suc r) n h)
  where
    go : (b : Bool) → Later (lowest_failing t ok (suc r) n) → Later (elim b [ true ↦ lowest_failing t ok (suc r) n | false ↦ refused_verdict t r ])
    go true ih = ih
    go false ih = later h

lower_later : (v w : Verdict) → Later v → Later w → Later (lower v w)
unfolding lower
lower_later (Ok _) w a b = b
lower_later (Err e) (Ok _) a b = a
lower_later (Err e) (Err f) a b = go (leb e.failing f.failing)
  where
    go : (x : Bool) → Later (elim x [ true ↦ Err e | false ↦ Err f ])
    go true = a
    go false = b

fault_later : (r : ℕ) (b : Bool) → Later (scope_fault r b)
unfolding scope_fault test_number
fault_later r true = fine
fault_later r false = later (omega arith)

ties_later : (book : List ℕ) (own outer first n : ℕ) (owns outers : List ℕ) → Later (tie_scope book own outer first n owns outers)
unfolding tie_scope
ties_later book own outer first zero owns outers = fine
ties_later book own outer first (suc n) owns outers = lower_later _ _ (fault_later first _) (ties_later book own outer (suc first) n (field book first 1 ∷ owns) (field book first 2 ∷ outers))

own_ties_later : (book : List ℕ) (own first n : ℕ) (owns : List ℕ) → Later (own_tie_scope book own first n owns)
unfolding own_tie_scope
own_ties_later book own first zero owns = fine
own_ties_later book own first (suc n) owns = lower_later _ _ (fault_later first _) (own_ties_later book own (suc first) n (field book first 1 ∷ owns))

links_later : (book : List ℕ) (f : ℕ → Verdict) (first n : ℕ) → ((x : ℕ) → Later (f x)) → Later (over_links book f first n)
unfolding over_links
links_later book f first zero h = fine
links_later book f first (suc n) h = lower_later _ _ (h (field book first 1)) (links_later book f (suc first) n h)

body_later : (f : ℕ → Verdict) (flag p : ℕ) → ((x : ℕ) → Later (f x)) → Later (body_scope f flag p)
unfolding body_scope
body_later f flag p h = go (eqb flag 1)
  where
    go : (b : Bool) → Later (elim b [ true ↦ f p | false ↦ fine_verdict ])
    go true = h p
    go false = fine

by_later : (book : List ℕ) (deeper : ℕ → ℕ → Verdict) (N r : ℕ) (k : Kind) → ((M x : ℕ) → Later (deeper M x)) → Later (scope_by book deeper N r k)
unfolding scope_by
by_later book deeper N r variable_kind h = fault_later r _
by_later book deeper N r term_kind h = links_later book (deeper N) (field book r 3) (field book r 2) (h N)
by_later book deeper N r link_kind h = fine
by_later book deeper N r atom_kind h = links_later book (deeper N) (field book r 3) (field book r 2) (h N)
by_later book deeper N r and_kind h = lower_later _ _ (h N (field book r 1)) (h N (field book r 2))
by_later book deeper N r or_kind h = lower_later _ _ (h N (field book r 1)) (h N (field book r 2))
by_later book deeper N r suppose_kind h = lower_later _ _ (links_later book (deeper N) (field book r 1) (field book r 2) (h N)) (h N (field book r 3))
by_later book deeper N r clause_kind h = lower_later _ _ (ties_later book (field book r 1) N (field book r 2) (field book r 3) [] [])
    (lower_later _ _ (h (field book r 1) (field book r 4)) (body_later (deeper (field book r 1)) (field book r 5) (field book r 6) (h (field book r 1))))
by_later book deeper N r tie_kind h = fine
by_later book deeper N r question_kind h = fine
by_later book deeper N r no_kind h = fine

at_later : (book : List ℕ) (d N r : ℕ) → Later (scope_at book d N r)
unfolding scope_at
at_later book zero N r = fine
at_later book (suc d) N r = by_later book (λ M x. scope_at book d M x) N r (kind_at book r) (λ M x. at_later book d M x)

own_later : (book : List ℕ) (r : ℕ) → Later (own_clause_scope book r)
unfolding own_clause_scope
own_later book r = lower_later _ _ (own_ties_later book (field book r 1) (field book r 2) (field book r 3) [])
    (lower_later _ _ (fault_later r _) (lower_later _ _ (at_later book r (field book r 1) (field book r 4)) (body_later (scope_at book r (field book r 1)) (field book r 5) (field book r 6) (λ x. at_later book r (field book r 1) x))))

scope_later : (book : List ℕ) → Later (scope_test book)
unfolding scope_test
scope_later book = lower_later _ _ (links_later book (own_clause_scope book) _ _ (λ x. own_later book x)) (at_later book (last_record book) _ _)

then_later : (v w : Verdict) → Later v → Later w → Later (elim v as (λ x. Verdict) [ Err e ↦ Err e | Ok _ ↦ w ])
then_later (Ok _) w a b = b
then_later (Err e) w a b = a

records_later : (book : List ℕ) → Later (record_tests book)
unfolding record_tests kind_test field_test target_test tree_test test_number
records_later book =
    then_later _ _ (scan_later Kinds (kind_ok book) 0 (records book) (omega arith))
    (then_later _ _ (scan_later Fields (fields_ok book) 0 (records book) (omega arith))
    (then_later _ _ (scan_later Targets (targets_ok book) 0 (records book) (omega arith))
    (then_later _ _ (scan_later Tree (once (all_pointers book 0 (records book))) 0 (last_record book) (omega arith)) (scope_later book))))

book_later : (book : List ℕ) → Later (book_verdict book)
unfolding book_verdict test_number
book_later book = go (size_fits (length book))
  where
    go : (b : Bool) → Later (elim b [ true ↦ record_tests book | false ↦ refused_verdict Size 0 ])
    go true = records_later book
    go false = later (omega arith)

number_later : {e : Refusal} → Later (Err e) → 2 ≤ test_number e.test
number_later (later h) = h

-- THE CALL, by its verdict
module _ (book : List ℕ) (budget wanted : ℕ) (ws out : List ℕ) where
  call_refused : (e : Refusal) → verdict (length ws) (length out) wanted book ≡ Err e → call book budget wanted ws out ≡ declined ws out e
  unfolding call
  call_refused e v = rw (call, v) refl

  call_taken : (u : Unit {0}) → verdict (length ws) (length out) wanted book ≡ Ok u → call book budget wanted ws out ≡ accepted (length ws) (length out) (run_of book budget wanted (length out))
  unfolding call
  call_taken u e = rw (call, e) refl

  words_later : (e : Refusal) → book_verdict book ≡ Err e → replicate (length ws) 0 ≡ (declined ws out e).workspace
  unfolding declined
  words_later e v =
      let h : 2 ≤ test_number e.test = number_later (subst Later v (book_later book)) in
      let n : eqb (test_number e.test) 1 ≡ false = ne_eqb (test_number e.test) 1 (λ x. omega arith) in
      rw (declined, n) refl

  -- refusal 1 leaves the workspace, every other clears it
  words_refused : (e : Refusal) → verdict (length ws) (length out) wanted book ≡ Err e → words_after (room_fits (length ws) (length out) wanted) ws ≡ (declined ws out e).workspace
  unfolding verdict words_after declined test_number
  words_refused e v = go (room_fits (length ws) (length out) wanted) v
    where
      go : (b : Bool) → ◌≡◌ {A = Verdict} (elim b [ true ↦ book_verdict book | false ↦ refused_verdict Room 0 ]) (Err e)
          → ◌≡◌ {A = List ℕ} (elim b [ true ↦ replicate (length ws) 0 | false ↦ ws ]) (declined ws out e).workspace
      go true v = words_later e v
      go false v = let x : record { test = Room; failing = 0 } ≡ e = cc in rw (← x) refl

  pub refused : (v : Verdict) (e : Refusal) (ws' : List ℕ) → v ≡ verdict (length ws) (length out) wanted book → v ≡ Err e → ws' ≡ tested_words (room_fits (length ws) (length out) wanted) book ws
      → (record { outcome = Err e; tally = no_counts } ≡ (call book budget wanted ws out).reply) × ((ws' ≡ (call book budget wanted ws out).workspace) × (out ≡ (call book budget wanted ws out).out))
  unfolding declined
  refused v e ws' d f g =
      let c = call_refused e (sym d ∙ f) in
      (ap (λ x. x.reply) (sym c), (tested_refused ws book (length out) wanted v e ws' d f g ∙ words_refused e (sym d ∙ f) ∙ ap (λ x. x.workspace) (sym c), ap (λ x. x.out) (sym c)))

  -- what a call that is taken makes sure of
  pub room_says : room_fits (length ws) (length out) wanted ≡ true → (length ws ≡ 16384) × (length out ≤ 65536) × (1 ≤ wanted) × (wanted ≤ 64)
  unfolding room_fits
  room_says e =
      let a = and_true (eqb (length ws) 16384) _ e in
      let b = and_true (leb (length out) 65536 && eqb (length out % 8) 0) _ a.1 in
      let c = and_true (leb (length out) 65536) _ b.0 in
      let d = and_true (leb 1 wanted) (leb wanted 64) b.1 in
      (eqb_says _ _ a.0, leb_says _ _ c.0, leb_says _ _ d.0, leb_says _ _ d.1)

  pub taken_ready : (v : Verdict) (u : Unit {0}) (ws' : List ℕ) → v ≡ verdict (length ws) (length out) wanted book → v ≡ Ok u → length ws' ≡ length ws
      → Accepted book × ((length ws' ≡ 16384) × (length out ≤ 65536) × (1 ≤ wanted) × (wanted ≤ 64))
  taken_ready v u ws' e f n =
      let c = call_accepted (length ws) (length out) wanted book (sym e ∙ f) in
      let h = room_says c.0 in
      (c.1, (n ∙ h.0, h.1, h.2, h.3))

  pub taken : (v : Verdict) (u : Unit {0}) (ws' : List ℕ) (x : Reply) (words bytes : List ℕ) → v ≡ verdict (length ws) (length out) wanted book → v ≡ Ok u → length ws' ≡ length ws
      → x ≡ (accepted (length ws') (length out) (run_of book budget wanted (length out))).reply
      → words ≡ (accepted (length ws') (length out) (run_of book budget wanted (length out))).workspace
      → bytes ≡ (accepted (length ws') (length out) (run_of book budget wanted (length out))).out
      → (x ≡ (call book budget wanted ws out).reply) × ((words ≡ (call book budget wanted ws out).workspace) × (bytes ≡ (call book budget wanted ws out).out))
  taken v u ws' x words bytes e f n a b d =
      let c : accepted (length ws') (length out) (run_of book budget wanted (length out)) ≡ call book budget wanted ws out =
      ap (λ (k : ℕ). accepted k (length out) (run_of book budget wanted (length out))) n ∙ sym (call_taken u (sym e ∙ f)) in
      (a ∙ ap (λ z. z.reply) c, (b ∙ ap (λ z. z.workspace) c, d ∙ ap (λ z. z.out) c))
