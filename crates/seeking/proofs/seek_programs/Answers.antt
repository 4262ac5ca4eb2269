use mathlib.Core.Path.{refl, sym, ◌∙◌}
use Rattle.seeking.proofs.SeekChain.{own_nowhere, unmarked}
use Rattle.seeking.proofs.seek_programs.Goals as goal

pub returns-then-p-eq0-clause-finds : goal.returns-then-p-eq0-clause-finds
returns-then-p-eq0-clause-finds c = λ md tp rest z. own_nowhere _ _ _ _ _ _ _ rest c.if-p-eq0.true z

pub returns-clause-finds : goal.returns-clause-finds
returns-clause-finds c = let S = c.requires in
    let e = sym c.is_supposed.ensures ∙ c.if-is_supposed.false in λ md tp rest z. unmarked _ c.args.book.now.readable S.formed _ _ _ S.indexed.supposed e _ _ _ _ rest (λ x. refl) z
