-- Laws of the run.
pub mod HandLaws
pub mod AnswerTurns
pub mod StepTurns
pub mod RunEnds
