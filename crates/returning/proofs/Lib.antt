-- Laws of going back.
pub mod PlaceLaws
pub mod BodyLaws
pub mod OutcomeLaws
pub mod RenewLaws
pub mod CandidateLaws
pub mod BodyGoals
pub mod ClashUnits
pub mod ClashLaws
pub mod MemoFrames
pub mod PassLaws
pub mod TryLaws
pub mod TryNeeds
pub mod ReturnLaws
pub mod BackNeeds
