pub mod Ways
pub mod Going
pub mod Closing
