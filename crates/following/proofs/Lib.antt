-- Laws of plain rules. PlainLaws: what the code finds is one; PlainRuns: what the machine does with one.
pub mod PlainLaws
pub mod PlainRuns
