pub mod Carried
pub mod Following
pub mod Rooms
pub mod Sessions
