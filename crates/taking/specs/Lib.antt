-- Taking a goal.
pub mod Takes
