-- For theorems by computation: to unfold `judged` is to unfold the tests, and to unfold `decoded` the reading of the tree.
use mathlib.Core.List.{List}
use Prim.Native.Nat.{ℕ}
use Rattle.book.specs.Records.{record_at, field, records, last_record, members}
use Rattle.book.specs.Kinds.{kind_of, kind_at, is_goal, is_term}
use Rattle.book.specs.Scan.{Verdict, lowest_failing, lower}
use Rattle.book.specs.Fields.{kind_fits, zeros, zero_from, run_fits, body_fits, fields_fit_as, fields_fit}
use Rattle.book.specs.Targets.{goal_at_kind, argument_link, clause_link, is_tie, each_of, body_target, targets_fit_as, targets_fit}
use Rattle.book.specs.Pointing.{body_pointer, pointers_as, pointers, all_pointers, times, once}
use Rattle.book.specs.Scope.{scope_fault, is_new, tie_scope, own_tie_scope, over_links, body_scope, scope_by, scope_at, own_clause_scope, scope_test}
use Rattle.book.specs.Refusals.{room_fits, size_fits, kind_ok, fields_ok, targets_ok, kind_test, field_test, target_test, tree_test, record_tests, book_verdict, verdict}
use Rattle.book.specs.Tree.{Question}
use Rattle.book.specs.Decode.{texts_from, text_by, text_at, text_of, arguments_of, ties_from, clauses_from, goal_by, body_by, clause_by, goal_at, goal_of, clause_of, clauses_of, question_of}

unfoldable pub judged : ℕ → ℕ → ℕ → List ℕ → Verdict
unfolding record_at field records last_record members kind_of kind_at is_goal is_term lowest_failing lower kind_fits zeros zero_from run_fits body_fits fields_fit_as fields_fit goal_at_kind argument_link clause_link is_tie each_of body_target targets_fit_as targets_fit body_pointer pointers_as pointers all_pointers times once scope_fault is_new tie_scope own_tie_scope over_links body_scope scope_by scope_at own_clause_scope scope_test room_fits size_fits kind_ok fields_ok targets_ok kind_test field_test target_test tree_test record_tests book_verdict verdict
judged words buffer wanted book = verdict words buffer wanted book

unfoldable pub decoded : List ℕ → Question
unfolding field records last_record kind_of kind_at texts_from text_by text_at text_of arguments_of ties_from clauses_from goal_by body_by clause_by goal_at goal_of clause_of clauses_of question_of
decoded book = question_of book
