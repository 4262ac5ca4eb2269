-- Plain rules, and chains of them.
pub mod Plain
