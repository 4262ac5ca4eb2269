use native.Mathlib.Omega.{arith}
use mathlib.Core.Path.{refl, ◌∙◌}
use Rattle.index.proofs.RunLaws.{found_some}
use Rattle.index.proofs.HeadLaws.{start_below, none_below}
use Rattle.index.proofs.first_match.Goals as goal

pub returns-in_err-z : goal.returns-in_err-z
returns-in_err-z c = let p = c.requires in c.from_residual.ensures ∙ none_below _ _ _ _ p.first_bound.1 p.indexed _ _ (c.in_err-z.ensures 0 (omega arith) p.indexed)

pub overflow_add-result : goal.overflow_add-result
overflow_add-result c = let p = c.requires in let x = found_some _ _ _ (c.in_ok-z.ensures 0 (omega arith) p.indexed) in omega (arith, x.0, x.1, p.first_bound.1)

pub bounds-ws-z : goal.bounds-ws-z
bounds-ws-z c = let p = c.requires in let x = found_some _ _ _ (c.in_ok-z.ensures 0 (omega arith) p.indexed) in omega (arith, x.0, x.1, p.first_bound.1)

pub returns : goal.returns
returns c = let p = c.requires in start_below _ _ _ _ p.first_bound.1 p.indexed _ _ c.in_ok-z.z _ (c.in_ok-z.ensures 0 (omega arith) p.indexed) refl
