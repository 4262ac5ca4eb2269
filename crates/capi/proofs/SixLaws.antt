-- The six numbers of a reply, by the case of its outcome.
use mathlib.Core.Path.{◌≡◌, refl}
use mathlib.Core.List.{[], ◌∷◌}
use Rattle.machine.specs.declared.Ending.{Ending}
use Rattle.std.proofs.Common.{Ok, Err}
use Rattle.book.specs.declared.Refusal.{Refusal}
use Rattle.book.specs.Refusals.{test_number}
use Rattle.machine.specs.declared.Reply.{Reply}
use Rattle.machine.specs.Run.{ending_number}
use Rattle.capi.specs.Six.{reply_six}

pub six_declined : (x : Reply) (e : Refusal) → x.outcome ≡ Err e → reply_six x ≡ test_number e.test ∷ e.failing ∷ 0 ∷ 0 ∷ 0 ∷ 0 ∷ []
unfolding reply_six
six_declined x e h = rw h refl

pub six_ended :
    (x : Reply) (e : Ending) → x.outcome ≡ Ok e → reply_six x ≡ 0 ∷ 0 ∷ ending_number e ∷ x.tally.answers ∷ x.tally.assumed ∷ x.tally.units ∷ []
unfolding reply_six
six_ended x e h = rw h refl
