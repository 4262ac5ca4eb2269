-- Laws of taking a goal.
pub mod WrittenLaws
pub mod HandLaws
pub mod MemoFrames
pub mod TakeRuns
pub mod AtomRuns
pub mod PlainSteps
pub mod TakingLaws
