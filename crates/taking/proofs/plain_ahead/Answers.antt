use native.Mathlib.Omega.{arith}
use Rattle.following.proofs.PlainLaws.{leads}
use Rattle.taking.proofs.plain_ahead.Goals as goal

pub returns : goal.returns
returns c = let p = c.requires in let l = leads _ p.formed.0 p.formed.1 _ _ _ p.goal_bound c.follow.ensures in λ s. record { own = omega (arith, c.if-x-gt0.false); chain = l.0; inside = l.2; goals = omega (arith, c.most_rules.ensures, l.1); units = omega (arith, c.most_rules.ensures, l.1) }
