use mathlib.Core.Bool.{not}
use mathlib.Core.Path.{◌≡◌, ◌∙◌, ap}
use Prim.Native.Nat.{ℕ}
use native.Mathlib.Omega.{arith}
use lib.Dec.{eqb}
use Rattle.std.specs.List.{list_any}
use Rattle.std.proofs.lemmas.Grind.{common_steps}
use Rattle.scope.proofs.TieLaws.{new_none}
use Rattle.scope.proofs.is_new.Goals as goal

pub returns : goal.returns
returns c =
    let e : c.contains.result ≡ list_any (λ (y : ℕ). eqb y c.args.x) c.args.seen.now =
    c.contains.ensures.value ∙ ap (list_any (λ (y : ℕ). eqb y c.args.x)) (grind (arith, common_steps)) in
    ap not e ∙ new_none c.args.x c.args.seen.now
