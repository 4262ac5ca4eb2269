-- What the exported function's contract cites.
pub mod Six
