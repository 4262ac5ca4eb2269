-- Completeness is promised for ending 0 alone: C3 extended. Of `p(a)`, `p(b)` the question `p(X)` with one answer wanted ends 1 with X = a, and X = b is derivable.
use mathlib.Core.Path.{◌≡◌, refl, ap, sym, ◌∙◌}
use mathlib.Core.List.Memᴰ
use mathlib.Core.List.{[], ◌∷◌, map}
use Prim.Native.Nat.{ℕ, ◌<◌}
use native.Mathlib.Omega.{arith}
use Rattle.std.specs.Prelude.{Ok}
use Rattle.book.specs.Records.{record_at, field, records, last_record, members}
use Rattle.book.specs.Kinds.{kind_of, kind_at, is_goal, is_term}
use Rattle.book.specs.Scan.{lowest_failing, lower}
use Rattle.book.specs.Fields.{kind_fits, zeros, zero_from, run_fits, body_fits, fields_fit_as, fields_fit}
use Rattle.book.specs.Targets.{goal_at_kind, argument_link, clause_link, is_tie, each_of, body_target, targets_fit_as, targets_fit}
use Rattle.book.specs.Pointing.{body_pointer, pointers_as, pointers, all_pointers, times, once}
use Rattle.book.specs.Scope.{scope_fault, is_new, tie_scope, own_tie_scope, over_links, body_scope, scope_by, scope_at, own_clause_scope, scope_test}
use Rattle.book.specs.Refusals.{room_fits, size_fits, kind_ok, fields_ok, targets_ok, kind_test, field_test, target_test, tree_test, record_tests, book_verdict, verdict}
use Rattle.book.specs.Tree.{count_texts, tie_of}
use Rattle.book.specs.Decode.{texts_from, text_by, text_at, text_of, arguments_of, ties_from, clauses_from, goal_by, body_by, clause_by, goal_at, goal_of, clause_of, clauses_of, question_of}
use Rattle.machine.specs.Term.{var, app, nil, count, sub, fill, spread, pair_up}
use Rattle.machine.specs.Store.{entry_at, follow, walk, entry_for, new_entries}
use Rattle.machine.specs.Machine.{settle, candidates, added, try_all, taking, solve, with_body_of, enter, order, pair, look_on, look, advance}
use Rattle.machine.specs.Answers.{before, place_of, note, write, bytes_of, lines_in, lines_for, first_terms, push_line, terms_of, answer_in}
use Rattle.machine.specs.Run.{counted, given, go_on, answering, after, step, run, start, solved}
use Rattle.machine.specs.Call.{filled_buffer, run_of, accepted, call}
use Rattle.machine.specs.declared.Ending.TheVariants.{Enough}
use Rattle.derivation.specs.Derivation.{Follows, clause_used, nothing_to_derive}
use Rattle.derivation.specs.Demand3.{Derivable}
use Rattle.derivation.specs.Examples.{a, b, two_facts, asked_for_one, EnoughComplete}

-- what the call replies and leaves, by computation from the bytes
replied : (asked_for_one.reply.outcome ≡ Ok Enough) × (asked_for_one.reply.tally.answers ≡ 1) × (answer_in asked_for_one.out 0 ≡ app a nil ∷ [])
unfolding record_at field records last_record members kind_of kind_at is_goal is_term lowest_failing lower kind_fits zeros zero_from run_fits body_fits fields_fit_as fields_fit goal_at_kind argument_link clause_link is_tie each_of body_target targets_fit_as targets_fit body_pointer pointers_as pointers all_pointers times once scope_fault is_new tie_scope own_tie_scope over_links body_scope scope_by scope_at own_clause_scope scope_test room_fits size_fits kind_ok fields_ok targets_ok kind_test field_test target_test tree_test record_tests book_verdict verdict count_texts tie_of texts_from text_by text_at text_of arguments_of ties_from clauses_from goal_by body_by clause_by goal_at goal_of clause_of clauses_of question_of count fill spread pair_up entry_at follow walk entry_for new_entries settle candidates added try_all taking solve with_body_of enter order pair look_on look advance before place_of note write bytes_of lines_in lines_for first_terms push_line terms_of answer_in counted given go_on answering after step run start solved filled_buffer run_of accepted call two_facts asked_for_one
replied = (refl, refl, refl)

-- X = b is derivable, by the second clause
b_derivable : Derivable (question_of two_facts) (app b nil ∷ [])
unfolding record_at field last_record records kind_of kind_at texts_from text_by text_at text_of arguments_of ties_from clauses_from goal_by body_by clause_by goal_at goal_of clause_of clauses_of question_of fill two_facts Follows Rattle.derivation.specs.Derivation.before
b_derivable = record { each = refl; derived = clause_used _ (λ o. var o) (Memᴰ.tail (Memᴰ.head refl)) refl nothing_to_derive }

pub enough_misses : EnoughComplete two_facts asked_for_one → ⊥
unfolding sub
enough_misses h =
    let r = h replied.0 (app b nil ∷ []) b_derivable in
    let one : asked_for_one.reply.tally.answers ≡ 1 = replied.1 in
    let i : r.0 < asked_for_one.reply.tally.answers = r.1 in
    let k : r.0 ≡ 0 = omega arith in
    let e : map (sub r.2.0) (app a nil ∷ []) ≡ app b nil ∷ []
    = ap (map (sub r.2.0)) (sym replied.2 ∙ ap (answer_in asked_for_one.out) (sym k)) ∙ r.2.1 in
    let z : ◌≡◌ {A = ℕ} 0 1 = cc e in omega arith
