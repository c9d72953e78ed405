pub mod Closed
pub mod Joining
