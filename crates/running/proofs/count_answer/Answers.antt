use Rattle.running.proofs.AnswerTurns.{more_by_flag}
use Rattle.running.proofs.count_answer.Goals as goal

pub returns : goal.returns
returns c = more_by_flag _ _ _ c.from.ensures
