use Rattle.std.proofs.Common.{◌≡◌, ℕ, suc, ◌+◌, ◌-◌, ◌<◌, ◌≤◌, true, ◌&&◌, eqb, List, refl, sym, ap, ◌∙◌, arith}
use Rattle.std.proofs.Math.Bool.{and-true, and_assoc}
use Rattle.book.specs.Records.{at}
use Rattle.book.specs.Fields.{zeros, zero_from}
use Rattle.fields.proofs.zero_from.Goals as goal

one_more : (r : List ℕ) (k : ℕ) → k < 8 → zero_from k r ≡ (eqb (at r k) 0 && zero_from (k + 1) r)
unfolding zero_from zeros
one_more r k l = let e : 8 - k ≡ suc (8 - (k + 1)) = omega arith in let s : k + 1 ≡ suc k = omega arith in rw e (rw s refl)

none_more : (r : List ℕ) (k : ℕ) → 8 ≤ k → zero_from k r ≡ true
unfolding zero_from zeros
none_more r k l = let e : 8 - k ≡ 0 = omega arith in rw e refl

pub loop-k-preserved : goal.loop-k-preserved
loop-k-preserved g c = let l = c.loop-k in
    l.invariant ∙ ap (λ b. l.zero && b) (one_more c.args.r l.k (let h = c.loop-k-test.true in omega arith)) ∙ sym (and_assoc l.zero (eqb (at c.args.r l.k) 0) (zero_from (l.k + 1) c.args.r))

pub returns : goal.returns
returns g c = let l = c.loop-k in sym (l.invariant ∙ ap (λ b. l.zero && b) (none_more c.args.r l.k (let h = c.loop-k-test.false in omega arith)) ∙ and-true l.zero)
