pub mod Story
pub mod Calls
pub mod Kept
pub mod Disk
pub mod Picks
