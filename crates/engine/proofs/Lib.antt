-- Laws of the words before a run, of an accepted call, and of the verdict.
pub mod OpenLaws
pub mod AcceptedLaws
pub mod VerdictLaws
