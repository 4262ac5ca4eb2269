-- The start of a run in the workspace, and what the whole run is ready for and gives.
pub mod Start
