pub mod Plays
pub mod Passes
