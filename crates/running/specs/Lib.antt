-- The run of an accepted call.
pub mod Turns
