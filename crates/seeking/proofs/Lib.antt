-- Laws of the search for candidates.
pub mod SeekLaws
pub mod SeekOwn
pub mod SeekChain
pub mod MemoLaws
pub mod MemoEntries
