use mathlib.Core.Path.{sym}
use Rattle.pointing.proofs.MarkLaws.{bump_few, bump_many}
use Rattle.pointing.proofs.bump.Goals as goal

pub returns-then-x-lt2 : goal.returns-then-x-lt2
returns-then-x-lt2 c = sym (bump_few c.args.t c.args.ws.now c.if-x-lt2.true)

pub returns-else-x-lt2 : goal.returns-else-x-lt2
returns-else-x-lt2 c = sym (bump_many _ _ c.if-x-lt2.false)
