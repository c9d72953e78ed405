pub mod Stages
pub mod Allowing
pub mod Places
pub mod Starting
pub mod Looking
pub mod Rooms
pub mod Turns
