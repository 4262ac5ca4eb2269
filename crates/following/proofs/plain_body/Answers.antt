use native.Mathlib.Omega.{arith}
use mathlib.Core.Bool.{true, false}
use mathlib.Core.Path.{◌≡◌, refl, sym, ◌∙◌}
use Rattle.std.specs.Prelude.{is_some}
use Rattle.index.proofs.RunLaws.{found_none}
use Rattle.following.proofs.PlainLaws.{link_in, matches_here, found_is, found_one, found_no_one, not_atom, not_bare, none_own, two_own, one_own}
use Rattle.following.proofs.plain_body.Goals as goal

pub returns-then-not-is : goal.returns-then-not-is
returns-then-not-is c = not_atom _ _ (sym c.is.ensures ∙ c.if-not-is.true)

pub returns-then-field-ne0 : goal.returns-then-field-ne0
returns-then-field-ne0 c = not_bare _ _ (sym c.is.ensures ∙ c.if-not-is.false) (λ e. c.if-field-ne0.true (c.field.ensures.0 ∙ e))

pub returns-in_err-i : goal.returns-in_err-i
returns-in_err-i c = let p = c.requires in c.from_residual.ensures ∙ none_own _ _ (sym c.is.ensures ∙ c.if-not-is.false) (sym c.field.ensures.0 ∙ c.if-field-ne0.false) _ _ p.run_value.0 p.run_value.1 _ c.read.ensures.0 _ refl (found_none _ _ (sym c.in_err-i.was ∙ c.first_match.ensures))

pub match_after-requires-clause-i_lt_n : goal.match_after-requires-clause-i_lt_n
match_after-requires-clause-i_lt_n c = let p = c.requires in let z = found_is _ _ _ _ c.first_match.ensures c.in_ok-i.was in (z.1, omega (arith, p.run_value.0, p.formed.1.first_small), omega (arith, p.run_value.1, p.formed.1.count_small))

pub match_after-requires-clause-i_value : goal.match_after-requires-clause-i_value
match_after-requires-clause-i_value c = let p = c.requires in let z = found_is _ _ _ _ c.first_match.ensures c.in_ok-i.was in matches_here _ p.formed.0 p.formed.1 _ _ p.run_value.0 p.run_value.1 _ _ z.0 z.1

pub returns-then-is_some : goal.returns-then-is_some
returns-then-is_some c = let t : is_some c.match_after.result ≡ true = grind arith in let p = c.requires in let z = found_is _ _ _ _ c.first_match.ensures c.in_ok-i.was in two_own _ _ (sym c.is.ensures ∙ c.if-not-is.false) (sym c.field.ensures.0 ∙ c.if-field-ne0.false) _ _ p.run_value.0 p.run_value.1 _ c.read.ensures.0 _ z.0 z.1 _ refl (found_one _ _ _ c.match_after.ensures t)

pub clause_at-c-requires-clause-i_lt_n : goal.clause_at-c-requires-clause-i_lt_n
clause_at-c-requires-clause-i_lt_n c = let p = c.requires in let z = found_is _ _ _ _ c.first_match.ensures c.in_ok-i.was in (z.1, omega (arith, p.run_value.0, p.formed.1.first_small), omega (arith, p.run_value.1, p.formed.1.count_small))

pub plain_clause-requires : goal.plain_clause-requires
plain_clause-requires c = let p = c.requires in let z = found_is _ _ _ _ c.first_match.ensures c.in_ok-i.was in rw c.clause_at-c.ensures (link_in _ p.formed.0 p.formed.1 _ _ p.run_value.0 p.run_value.1 _ z.1).1

pub returns : goal.returns
returns c = let t : is_some c.match_after.result ≡ false = grind arith in let p = c.requires in let z = found_is _ _ _ _ c.first_match.ensures c.in_ok-i.was in c.plain_clause.ensures ∙ rw c.clause_at-c.ensures (one_own _ _ (sym c.is.ensures ∙ c.if-not-is.false) (sym c.field.ensures.0 ∙ c.if-field-ne0.false) _ _ p.run_value.0 p.run_value.1 _ c.read.ensures.0 _ z.0 z.1 _ refl (found_no_one _ _ _ c.match_after.ensures t))
