use native.Mathlib.Omega.{arith}
use Prim.Native.Nat.{◌+◌}
use Rattle.words.proofs.ReadLaws.{four_bytes}
use Rattle.words.proofs.four.Goals as goal

pub returns : goal.returns
returns c = let a = c.args in four_bytes a.bytes.now a.at _ (omega (arith, c.from_le_bytes.ensures)) (omega (arith, c.type_inv.bytes a.at)) (omega (arith, c.type_inv.bytes (a.at + 1)))
