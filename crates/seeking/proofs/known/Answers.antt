use native.Mathlib.Omega.{arith}
use mathlib.Core.Path.{refl}
use Rattle.seeking.proofs.MemoEntries.{half_most, if_some, known_finds}
use Rattle.seeking.proofs.known.Goals as goal

pub returns : goal.returns
returns c = let p = c.requires in if_some _ _ c.checked_sub.ensures (λ h. (omega arith, known_finds p.by_index.1 p.q_bound.0 p.q_bound.1 (half_most c.args.half) refl c.entry_at-e.ensures.0 c.head_rest.ensures.0 c.if-ws-e.false c.if-x-head_rest.false (omega (arith, p.q_bound.3)) (omega (arith, h))))
