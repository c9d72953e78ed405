pub mod Knowing
pub mod Following
pub mod Installing
pub mod Rebuilding
pub mod Joining
