-- Candidates along the programs. Seeking: what a search finds; Memo: what was found before.
pub mod Seeking
pub mod Memo
