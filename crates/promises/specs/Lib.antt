-- The promises, on one page.
pub mod Promises
