use Rattle.scope.proofs.PartLaws.{variable_fine, links_fine}
use Rattle.scope.proofs.is_fine.Goals as goal

pub returns-in-Variable : goal.returns-in-Variable
returns-in-Variable c = variable_fine c.args.book.now c.args.n c.args.r _ _ _ c.in-Ok.ensures.0 c.number_at-k.ensures c.from.ensures _ _ c.in-Variable.is c.number_at.ensures c.from-in-Variable.ensures

pub returns-in-Term : goal.returns-in-Term
returns-in-Term c = links_fine c.args.book.now c.args.n c.args.r _ _ _ c.in-Ok.ensures.0 c.number_at-k.ensures c.from.ensures _ _ c.in-Term.is c.number_at-in-Term.ensures c.from-in-Term.ensures
