use native.Mathlib.Omega.{arith}
use mathlib.Core.Path.{◌∙◌}
use mathlib.Core.List.{[], ◌∷◌}
use Prim.Native.Nat.{◌/◌, ◌%◌}
use lib.Seq.{sets-eq}
use Rattle.machine.specs.Answers.{bytes_of}
use Rattle.answers.specs.Buffer.{record_bytes}
use Rattle.answers.proofs.BufferLaws.{low_first}
use Rattle.answers.proofs.put_record.Goals as goal

pub returns : goal.returns
unfolding record_bytes bytes_of
returns c =
    rw (c.to_le_bytes.ensures ∙ low_first _ (omega arith), c.to_le_bytes-2.ensures ∙ low_first _ (omega arith), c.to_le_bytes-3.ensures ∙ low_first _ (omega arith), c.to_le_bytes-4.ensures ∙ low_first _ (omega arith))
    (sets-eq (c.args.answer % 256 ∷ c.args.answer / 256 ∷ c.args.what % 256 ∷ c.args.what / 256 ∷ c.args.number % 256 ∷ c.args.number / 256 ∷ c.args.args % 256 ∷ c.args.args / 256 ∷ []) c.args.part.now 0 (omega arith))
