-- Where the next answer starts is inside the buffer.
use Rattle.std.proofs.Common.{arith, ◌≤◌, length}
use Rattle.answers.proofs.CallerLaws.{end_inside}
use Rattle.answers_main.proofs.answer.Goals as goal

pub returns-in_ok-println-in-Ok-clause-upper_bound :
    goal.returns-in_ok-println-in-Ok-clause-upper_bound
returns-in_ok-println-in-Ok-clause-upper_bound g c =
    let h : c.in-Ok.end ≤ length c.args.out.now = end_inside _ _ _ _ _ _ _ _ c.requires.at_in_bounds.0 c.in-Ok.ensures.value in
    omega arith
