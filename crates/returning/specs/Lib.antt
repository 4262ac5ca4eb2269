-- Going back to the newest alternative.
pub mod Returns
pub mod Reentry
pub mod Passing
pub mod Reaching
