use mathlib.Core.Path.{◌≡◌, sym, ◌∙◌, ap}
use native.Mathlib.Omega.{arith}
use borrow.Author.Rules.{rules}
use Rattle.book.specs.Records.{field}
use Rattle.book.specs.Scan.{lower}
use Rattle.book.specs.Scope.{own_clause_scope}
use Rattle.scope.proofs.PartLaws.{links_end, links_step}
use Rattle.scope.specs.Lowest.{verdict_of}
use Rattle.scope.proofs.own_clauses.Goals as goal

pub loop-l-init : goal.loop-l-init
unfolding lower
loop-l-init c = search rules

pub own_clause_at-requires : goal.own_clause_at-requires
own_clause_at-requires c =
    let x = c.requires.1 c.loop-l.l (omega arith) (omega arith) in
    rw c.number_at.ensures (c.requires.0, x.0, x.1)

pub loop-l-preserved : goal.loop-l-preserved
loop-l-preserved c =
    let w : verdict_of c.lower-v.result ≡ lower (verdict_of c.loop-l.v) (own_clause_scope c.args.book.now (field c.args.book.now c.loop-l.l 1)) =
    c.lower-v.ensures ∙ ap (lower (verdict_of c.loop-l.v)) (c.own_clause_at.ensures ∙ ap (own_clause_scope c.args.book.now) c.number_at.ensures) in
    rw w (sym (links_step c.args.book.now (own_clause_scope c.args.book.now) _ _ _ c.loop-l-test.true)) ∙ c.loop-l.invariant

pub returns : goal.returns
returns c = sym (links_end c.args.book.now _ _ _ _ c.loop-l-test.false) ∙ c.loop-l.invariant
