-- Laws of the start.
pub mod StartLaws
