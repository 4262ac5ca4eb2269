use Rattle.answers_main.proofs.ExampleLaws.{example_slots, example_numbers}
use Rattle.answers_main.proofs.set_up.Goals as goal

pub returns : goal.returns
returns c = rw c.requires (example_slots, example_numbers)
