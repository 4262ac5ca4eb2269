pub mod NoteLaws
pub mod NoteWords
pub mod SupposedKeeps
pub mod SupposedLaws
pub mod SearchLaws
